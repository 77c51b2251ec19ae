-- The outcome of a call, by the texts of its input.
use Rattle.std.proofs.Common.{◌≡◌, ◌≢◌, ◌≤◌, ℕ, List, length, arith, inl, inr, refl, sym, ap, ◌∙◌, subst}
use Rattle.latex2mathml_c.specs.Call.{IsLength, IsCallOutcome, IsPutOrTooSmall, Room, Texts, code_of}
use Rattle.latex2mathml_c.specs.declared.Status.{Status}
use Rattle.latex2mathml_c.specs.declared.Status.TheVariants.{Done, Refused, NotUtf8, TooSmall, OutOfMemory, DefinitionRefused, UnknownFlags}

-- no text has a status that means that there was no room or no memory for a text
pub record AreTexts (texts : Texts) : Type 0 where
  pub roomy : (text : List ℕ) → texts TooSmall text → ⊥
  pub found : (text : List ℕ) → texts OutOfMemory text → ⊥

-- a text that was written, or left out, is the outcome of the call
pub put_outcome : (texts : Texts) → AreTexts texts → (status result : Status) (text : List ℕ) (room : Room) → texts status text → IsPutOrTooSmall status result text room → IsCallOutcome texts result room
put_outcome texts are Done result text room is (inl (same, put)) = subst (λ s. IsCallOutcome texts s room) (sym same) (text, is, put)
put_outcome texts are Refused result text room is (inl (same, put)) = subst (λ s. IsCallOutcome texts s room) (sym same) (text, is, put)
put_outcome texts are NotUtf8 result text room is (inl (same, put)) = subst (λ s. IsCallOutcome texts s room) (sym same) (text, is, put)
put_outcome texts are DefinitionRefused result text room is (inl (same, put)) = subst (λ s. IsCallOutcome texts s room) (sym same) (text, is, put)
put_outcome texts are UnknownFlags result text room is (inl (same, put)) = subst (λ s. IsCallOutcome texts s room) (sym same) (text, is, put)
put_outcome texts are TooSmall result text room is (inl put) = absurd (are.roomy text is)
put_outcome texts are OutOfMemory result text room is (inl put) = absurd (are.found text is)
put_outcome texts are status result text room is (inr (small, left)) = subst (λ s. IsCallOutcome texts s room) (sym small) (status, text, is, left)

-- an outcome of a call by some texts is also one by more texts
pub outcome_weaker : (texts more : Texts) (status : Status) (room : Room) → ((s : Status) (text : List ℕ) → texts s text → more s text) → IsCallOutcome texts status room → IsCallOutcome more status room
outcome_weaker texts more Done room h (text, is, put) = (text, h Done text is, put)
outcome_weaker texts more Refused room h (text, is, put) = (text, h Refused text is, put)
outcome_weaker texts more NotUtf8 room h (text, is, put) = (text, h NotUtf8 text is, put)
outcome_weaker texts more DefinitionRefused room h (text, is, put) = (text, h DefinitionRefused text is, put)
outcome_weaker texts more UnknownFlags room h (text, is, put) = (text, h UnknownFlags text is, put)
outcome_weaker texts more TooSmall room h (status, text, is, left) = (status, text, h status text is, left)
outcome_weaker texts more OutOfMemory room h outcome = outcome

-- if all texts of an input are the same text, each call with it needs the same room
module _ (texts : Texts) (one_text : (status : Status) (text : List ℕ) (other : Status) (again : List ℕ) → texts status text → texts other again → text ≡ again) where
  -- the text that resulted from a call, whether it was written or left out
  abbrev HasText : ℕ → Type 0
  HasText needed = (status : Status) × (text : List ℕ) × texts status text × (needed ≡ length text)

  needed_text : (status : Status) (room : Room) → status ≢ OutOfMemory → IsCallOutcome texts status room → HasText room.needed
  needed_text Done room some (text, is, put) = (Done, text, is, put.0)
  needed_text Refused room some (text, is, put) = (Refused, text, is, put.0)
  needed_text NotUtf8 room some (text, is, put) = (NotUtf8, text, is, put.0)
  needed_text DefinitionRefused room some (text, is, put) = (DefinitionRefused, text, is, put.0)
  needed_text UnknownFlags room some (text, is, put) = (UnknownFlags, text, is, put.0)
  needed_text TooSmall room some (status, text, is, left) = (status, text, is, left.0)
  needed_text OutOfMemory room some outcome = absurd (some refl)

  same_needed : (needed other : ℕ) → HasText needed → HasText other → other ≡ needed
  same_needed needed other (status, text, is, e) (status', text', also, e') =
      e' ∙ ap length (one_text status' text' status text also is) ∙ sym e

  -- the length that a call says, unless it runs out of memory, is what each such call needs
  pub needed_length : (status : Status) (code : ℕ) (room : Room) → code ≡ code_of status → IsCallOutcome texts status room → code ≢ code_of OutOfMemory → IsLength texts room.needed
  needed_length status code room is outcome some =
      record { said = said; fits = fits }
    where
      told : HasText room.needed
      told = needed_text status room (λ e. some (is ∙ ap code_of e)) outcome

      said : (status' : Status) (other : Room) → status' ≢ OutOfMemory → IsCallOutcome texts status' other → other.needed ≡ room.needed
      said status' other found outcome' = same_needed room.needed other.needed told (needed_text status' other found outcome')

      fits : (other : Room) → room.needed ≤ length other.old → ¬ IsCallOutcome texts TooSmall other
      fits other enough outcome' =
          let same : other.needed ≡ room.needed = said TooSmall other (λ e. cc) outcome' in
          let small = outcome'.3.1 in
          omega arith
