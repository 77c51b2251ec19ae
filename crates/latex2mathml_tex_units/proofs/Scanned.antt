-- What is taken unit by unit.
use Rattle.std.proofs.Common.{◌≡◌, ℕ, ℤ, suc, ◌≤◌, Bool, true, false, List, [], ◌++◌, Option, MatchOption, Some, None, refl, sym, ap, subst, ◌∙◌, append-nil, append_assoc, arith}
use Rattle.std.specs.{Bool.⊤, Char.encode_utf8}
use Rattle.latex2mathml_attributes.specs.Columns.{IsSmall}
use Rattle.latex2mathml_tex_grammar.specs.{Lengths.length_of, Lengths.thousandths_of, Lengths.width_of, Lengths.within_most, Refusal.Refusal, RowGaps.space_found, RowGaps.space_of}
use Rattle.latex2mathml_tex_grammar.specs.Scanning as scanning
use Rattle.latex2mathml_tex_grammar.specs.Scanning.{Found, Given, Missing, BeforeRow, BeforeLength, BeforeStar, behind_found, done, found_at_end, may_end, past, past_break, scan, with_character}
use Rattle.latex2mathml_tex_grammar.specs.Units.{Unit, Units, Next, End, Stop}
use Rattle.latex2mathml_tex_units.specs.{Errors.refusal_of, Left.unit_count, Scans.IsFound, Scans.behind_text, Scans.deed_of, Scans.spot_of, Taking.piece_of, Taking.unit_of}
use Rattle.latex2mathml_tex_units.specs.declared.{error.TexError.TexError, scanning.Deed.Deed, scanning.Spot.Spot, unit.Piece.Piece, unit.Unit.Unit as CodeUnit}
use Rattle.latex2mathml_tex_units.specs.declared.scanning.Deed.TheVariants as deed
use Rattle.latex2mathml_tex_units.specs.declared.unit.Piece.TheVariants as piece

pub other_deed : (s : Spot) (p : Piece) → (p ≡ piece.Space → ⊥) → scanning.deed_there (spot_of s) (piece_of p) ≡ scanning.deed (spot_of s) (piece_of p)
other_deed s piece.Space h = absurd (h refl)
other_deed s piece.Open h = refl
other_deed s piece.Close h = refl
other_deed s (piece.Command name) h = refl
other_deed s (piece.Character c) h = refl

-- A text before what is found

pub behind_nothing : (found : Found) → behind_text [] found ≡ found
behind_nothing (Given text l) = refl
behind_nothing (Missing r) = refl

pub behind_character : (text : List ℕ) (c : ℕ) (found : Found) → behind_text (text ++ encode_utf8 c) found ≡ behind_text text (with_character c found)
behind_character text c (Given more l) = ap (λ t. Given t l) (append_assoc text (encode_utf8 c) more)
behind_character text c (Missing r) = refl

-- nothing more is found after a text
pub found_nothing : (error : Option TexError) (text : List ℕ) (l : Units) (found : Found) → IsFound error [] l found → IsFound error text l (behind_text text found)
found_nothing None text l found h = ap (behind_text text) h ∙ ap (λ t. Given t l) (append-nil text)
found_nothing (Some error) text l found (r, e, h) = (r, e, ap (behind_text text) h)

pub refused_there : (error : TexError) (text : List ℕ) (l : Units) (found : Found) (r : Refusal) → refusal_of error ≡ Some r → found ≡ Missing r → IsFound (Some error) text l (behind_text text found)
refused_there error text l found r e h = (r, e, ap (behind_text text) h)

-- How many units are left

abbrev FoundFits : ℕ → Found → Type 0
FoundFits k (Given text m) = unit_count m ≤ k
FoundFits k (Missing r) = ⊤

found_more : (k : ℕ) (found : Found) → FoundFits k found → FoundFits (suc k) found
found_more k (Given text m) h = omega arith
found_more k (Missing r) h = tt

found_longer : (c k : ℕ) (found : Found) → FoundFits k found → FoundFits k (with_character c found)
found_longer c k (Given text m) h = h
found_longer c k (Missing r) h = tt

done_fits : (place : ℕ) (spot : scanning.Spot) (d : scanning.Deed) (u : Unit) (l : Units) (behind : scanning.Spot → Found) → ((next : scanning.Spot) → FoundFits (unit_count l) (behind next)) → FoundFits (suc (unit_count l)) (done place spot d u l behind)
done_fits place spot (scanning.Passes next) u l behind h = found_more (unit_count l) (behind next) (h next)
done_fits place spot (scanning.Adds c next) u l behind h = found_longer c (suc (unit_count l)) (behind next) (found_more (unit_count l) (behind next) (h next))
done_fits place spot scanning.Ends u l behind h = omega arith
done_fits place spot scanning.Leaves u l behind h = omega arith
done_fits place spot scanning.Misses u l behind h = tt
done_fits place spot (scanning.Refuses kind) u l behind h = tt

end_fits : (b : Bool) (l : Units) (r : Refusal) → FoundFits (unit_count l) (found_at_end b l r)
end_fits true l r = omega arith
end_fits false l r = tt

scan_fits : (place : ℕ) (l : Units) (spot : scanning.Spot) → FoundFits (unit_count l) (scan place l spot)
scan_fits place (Next u us) spot = done_fits place spot (scanning.deed spot u.piece) u us (scan place us) (scan_fits place us)
scan_fits place (End at) spot = end_fits (may_end spot) (End at) _
scan_fits place (Stop r) spot = end_fits (may_end spot) (Stop r) _

pub no_more_scanned : (place : ℕ) (l m : Units) (spot : scanning.Spot) (text : List ℕ) → scan place l spot ≡ Given text m → unit_count m ≤ unit_count l
no_more_scanned place l m spot text e = subst (FoundFits (unit_count l)) e (scan_fits place l spot)

left_fits : (l : Units) (found : Found) → FoundFits (unit_count l) found → unit_count (behind_found l found) ≤ unit_count l
left_fits l (Given text m) h = h
left_fits l (Missing r) h = omega arith

pub no_more_past : (spot : scanning.Spot) (l : Units) → unit_count (past spot l) ≤ unit_count l
no_more_past spot l = left_fits l (scan 0 l spot) (scan_fits 0 l spot)

pub no_more_past_break : (l : Units) → unit_count (past_break l) ≤ unit_count l
no_more_past_break l =
    let star = no_more_past BeforeStar l in
    let length = no_more_past BeforeLength (past BeforeStar l) in
    let row = no_more_past BeforeRow (past BeforeLength (past BeforeStar l)) in
    omega arith

-- a unit that adds a character
pub adds_more : (place : ℕ) (l m : Units) (u : CodeUnit) (spot : Spot) (d : Deed) (c : ℕ) (next : Spot) (text : List ℕ) → l ≡ Next (unit_of u) m → deed_of d ≡ scanning.deed (spot_of spot) (piece_of u.piece) → d ≡ deed.Adds c next → behind_text (text ++ encode_utf8 c) (scan place m (spot_of next)) ≡ behind_text text (scan place l (spot_of spot))
adds_more place l m u spot d c next text e does is =
    let adds : scanning.deed (spot_of spot) (piece_of u.piece) ≡ scanning.Adds c (spot_of next) = sym does ∙ ap deed_of is in
    let here : with_character c (scan place m (spot_of next)) ≡ scan place (Next (unit_of u) m) (spot_of spot) = ap (λ d. done place (spot_of spot) d (unit_of u) m (scan place m)) (sym adds) in
    behind_character text c (scan place m (spot_of next)) ∙ ap (behind_text text) (here ∙ ap (λ k. scan place k (spot_of spot)) (sym e))

-- Space

-- it is that of the text which was found
pub space_taken : (error : Option TexError) (text before : List ℕ) (l m : Units) → error ≡ None → before ≡ [] → IsFound error text m (behind_text before (scan 0 l BeforeLength)) → space_found (scan 0 l BeforeLength) ≡ space_of (width_of text)
space_taken None text before l m is none h =
    ap space_found (sym (behind_nothing (scan 0 l BeforeLength)) ∙ ap (λ t. behind_text t (scan 0 l BeforeLength)) (sym none) ∙ h)
space_taken (Some error) text before l m is none h = absurd (grind (arith, is))

small_within : (is_negative : Bool) (n : ℕ) → IsSmall (space_of (within_most is_negative n))
small_within is_negative n = grind arith

pub width_is : (width : Option ℤ) (text : List ℕ) → MatchOption width (width_of text ≡ None) (λ n. width_of text ≡ Some n) → width_of text ≡ width
width_is None text h = h
width_is (Some n) text h = h

-- no space is larger than the largest length
pub small_space : (found : Found) → IsSmall (space_found found)
small_space (Given text l) = (let length = length_of text in small_within length.is_negative (thousandths_of length.first length.last length.number length.scale))
small_space (Missing r) = omega arith
