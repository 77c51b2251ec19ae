-- Why a document was not converted, and what the walks of the entries of a directory ask and list.
use Rattle.std.proofs.Common.{◌≡◌, ◌≢◌, ℕ, ◌+◌, ◌-◌, ◌<◌, ◌≤◌, List, [], ◌∷◌, ◌++◌, Option, None, Some, Result, Ok, Err, All, IfErr, OnOk, IsPermutation, String, length, take, refl, sym, ap, ◌∙◌, subst, append-nil, append_assoc, string_bytes, slice_index_or}
use Rattle.std.proofs.lemmas.List.{take_all, take_more}
use Rattle.std.specs.declared.alloc.Global.{Global}
use Rattle.latex2mathml.specs.Files.{Answer, Answered, Ascend, IsListed, IsReadingFault, IsWritingFault, Holds, Listed, Lists, ListsEach, NoMore, Next, Stands, IsWalked, entry_path}
use Rattle.latex2mathml.specs.{Inputs.IsReadingOf, Streams.IsStopped, Streams.StreamState, declared.error.FileFault.FileFault}
use Rattle.latex2mathml.specs.declared.error.FileFault.TheVariants.{List as Unlisted, Entry, TooDeep, Read, NotText, Refused, Create, Write}
use Rattle.latex2mathml.specs.{declared.files.Unconverted.Unconverted, declared.files.site.Listing.Listing}
use Rattle.latex2mathml.specs.{declared.files.site.PathKind.TheVariants.Directory, declared.input.Reading.Reading}

pub reading_fault : (bytes : List ℕ) (state : StreamState) (result : Result Reading FileFault) → IsReadingOf bytes state result → IfErr result IsReadingFault
reading_fault bytes state (Ok reading) is = tt
reading_fault bytes state (Err Read) is = tt
reading_fault bytes state (Err NotText) is = tt
reading_fault bytes state (Err (Refused error)) is = tt
reading_fault bytes state (Err Unlisted) is = absurd is.0
reading_fault bytes state (Err Entry) is = absurd is.0
reading_fault bytes state (Err TooDeep) is = absurd is.0
reading_fault bytes state (Err Create) is = absurd is.0
reading_fault bytes state (Err (Write written cause)) is = absurd is.0

pub writing_fault : (text : List ℕ) (old new : StreamState) (result : Result Unit FileFault) → IfErr result (λ fault. IsStopped fault text old new) → IfErr result IsWritingFault
writing_fault text old new (Ok _) is = tt
writing_fault text old new (Err (Write written cause)) is = tt
writing_fault text old new (Err Unlisted) is = absurd is
writing_fault text old new (Err Entry) is = absurd is
writing_fault text old new (Err TooDeep) is = absurd is
writing_fault text old new (Err Read) is = absurd is
writing_fault text old new (Err NotText) is = absurd is
writing_fault text old new (Err (Refused error)) is = absurd is
writing_fault text old new (Err Create) is = absurd is

-- a site that was asked nothing: no answer is added
pub asked_nothing : (state : Option (List Answer)) → Answered state state []
asked_nothing None = tt
asked_nothing (Some answers) = sym (append-nil answers)

-- a site that gave some answers, and then others
pub asked_more : (a b c : Option (List Answer)) (first then : List Answer) → Answered a b first → Answered b c then → Answered a c (first ++ then)
asked_more None b c first then p q = tt
asked_more (Some before) None c first then p q = absurd p
asked_more (Some before) (Some between) None first then p q = absurd q
asked_more (Some before) (Some between) (Some after) first then p q = q ∙ ap (λ l. l ++ then) p ∙ append_assoc before first then

-- one more entry was walked
one_more : (levels : ℕ) (path : List ℕ) (names : List (String Global)) (name : String Global) (answers last : List Answer) (walked here : List Unconverted)
    → ListsEach levels path names answers walked → Lists levels (entry_path path (string_bytes name)) last here
    → ListsEach levels path (names ++ (name ∷ [])) (answers ++ last) (walked ++ here)
one_more levels path _ name _ last _ here NoMore is = Next last [] here [] is NoMore (sym (append-nil last)) (sym (append-nil here))
one_more levels path _ name _ last _ here (Next {names = names} first others start rest begins goes_on answered all) is =
    Next first (others ++ last) start (rest ++ here) begins (one_more levels path names name others last rest here goes_on is)
    (ap (λ l. l ++ last) answered ∙ append_assoc first others last)
    (ap (λ l. l ++ here) all ∙ append_assoc start rest here)

-- the effect of one more fault in the list
pub one_listed : {A : Type 0} (levels : ℕ) (path : List ℕ) (fault : FileFault) (before after : Option (List Answer)) (answers : List Answer) (old new : List Unconverted) (result : Result Unit A)
    → Answered before after answers
    → OnOk result ((one : Unconverted) × (new ≡ old ++ (one ∷ [])) × IsListed path fault one)
    → ((one : Unconverted) → IsListed path fault one → Lists levels path answers (one ∷ []))
    → OnOk result (IsWalked levels path before after old new)
one_listed levels path fault before after answers old new (Ok _) asked (one, is, so) walk = (answers, one ∷ [], asked, is, walk one so)
one_listed levels path fault before after answers old new (Err _) asked added walk = tt

pub next_walked : (levels : ℕ) (path entry : List ℕ) (names : List (String Global)) (index : ℕ) (name : String Global) (answers last : List Answer) (walked here : List Unconverted)
    → index < length names
    → name ≡ slice_index_or names index name
    → entry ≡ entry_path path (string_bytes name)
    → ListsEach levels path (take index names) answers walked
    → Lists levels entry last here
    → ListsEach levels path (take (index + 1) names) (answers ++ last) (walked ++ here)
next_walked levels path entry names index name answers last walked here inside is leads so_far walk =
    subst (λ l. ListsEach levels path l (answers ++ last) (walked ++ here)) (ap (λ x. take index names ++ (x ∷ [])) is ∙ sym (take_more names index name inside))
    (one_more levels path (take index names) name answers last walked here so_far (subst (λ p. Lists levels p last here) leads walk))

pub all_walked : (levels : ℕ) (path : List ℕ) (listing : Listing) (names items : List (String Global)) (index : ℕ)
    (before stood held after : Option (List Answer)) (answers : List Answer) (old middle new unread walked : List Unconverted)
    → levels ≢ 0
    → Answered before stood (Stands path Directory ∷ [])
    → Answered stood held (Holds path (Some listing) ∷ [])
    → Answered held after answers
    → All (IsListed path Entry) unread
    → length unread ≡ listing.unread
    → IsPermutation listing.names.items names
    → Ascend names
    → items ≡ names
    → length items ≤ index
    → ListsEach (levels - 1) path (take index items) answers walked
    → middle ≡ old ++ unread
    → new ≡ middle ++ walked
    → IsWalked levels path before after old new
all_walked levels path listing names items index before stood held after answers old middle new unread walked some stands holds asked each count moved sorted same done walks added grown = (
  Stands path Directory ∷ Holds path (Some listing) ∷ answers,
  unread ++ walked,
  asked_more _ _ _ _ _ stands (asked_more _ _ _ _ _ holds asked),
  grown ∙ ap (λ l. l ++ walked) added ∙ append_assoc old unread walked,
  Listed some unread walked each count names moved sorted (subst (λ l. ListsEach (levels - 1) path l answers walked) (take_all index items done ∙ same) walks) refl,
)
