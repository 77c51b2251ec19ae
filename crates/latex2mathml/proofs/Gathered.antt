-- One more entry of a directory: its name, or that it was not read.
use Rattle.std.proofs.Common.{◌≡◌, ℕ, ◌+◌, List, [], ◌∷◌, ◌++◌, Result, Ok, Err, String, refl, sym, ap, ◌∙◌, map, string_bytes}
use Rattle.std.proofs.lemmas.List.{map-append}
use Rattle.std.specs.{declared.alloc.Global.Global, Fs.dir_entry_name, declared.fs.dir.DirEntry.DirEntry}
use Rattle.latex2mathml.specs.Entries.{names_of, unread_of}

module _ {R A F D E : Type 0} where
  pub name_more : (given : List (Result (DirEntry R A F D) E)) (entry : DirEntry R A F D)
      → names_of (given ++ (Ok entry ∷ [])) ≡ names_of given ++ (dir_entry_name entry ∷ [])
  name_more [] entry = refl
  name_more (Ok first ∷ given) entry = ap (λ names. dir_entry_name first ∷ names) (name_more given entry)
  name_more (Err error ∷ given) entry = name_more given entry

  pub name_same : (given : List (Result (DirEntry R A F D) E)) (error : E) → names_of (given ++ (Err error ∷ [])) ≡ names_of given
  name_same [] error = refl
  name_same (Ok first ∷ given) error = ap (λ names. dir_entry_name first ∷ names) (name_same given error)
  name_same (Err other ∷ given) error = name_same given error

  pub unread_same : (given : List (Result (DirEntry R A F D) E)) (entry : DirEntry R A F D) → unread_of (given ++ (Ok entry ∷ [])) ≡ unread_of given
  unread_same [] entry = refl
  unread_same (Ok first ∷ given) entry = unread_same given entry
  unread_same (Err error ∷ given) entry = ap (λ n. n + 1) (unread_same given entry)

  pub unread_more : (given : List (Result (DirEntry R A F D) E)) (error : E) → unread_of (given ++ (Err error ∷ [])) ≡ unread_of given + 1
  unread_more [] error = refl
  unread_more (Ok first ∷ given) error = unread_more given error
  unread_more (Err other ∷ given) error = ap (λ n. n + 1) (unread_more given error)

  pub name_gathered : (given : List (Result (DirEntry R A F D) E)) (read : Result (DirEntry R A F D) E) (entry : DirEntry R A F D) (names new : List (String Global)) (name : String Global)
      → read ≡ Ok entry
      → new ≡ names ++ (name ∷ [])
      → string_bytes name ≡ dir_entry_name entry
      → map string_bytes names ≡ names_of given
      → map string_bytes new ≡ names_of (given ++ (read ∷ []))
  name_gathered given read entry names new name is grown named so_far =
      ap (map string_bytes) grown
      ∙ map-append string_bytes names (name ∷ [])
      ∙ ap (λ l. l ++ (string_bytes name ∷ [])) so_far
      ∙ ap (λ n. names_of given ++ (n ∷ [])) named
      ∙ sym (name_more given entry)
      ∙ sym (ap (λ it. names_of (given ++ (it ∷ []))) is)

  pub unread_kept : (given : List (Result (DirEntry R A F D) E)) (read : Result (DirEntry R A F D) E) (entry : DirEntry R A F D) (unread : ℕ)
      → read ≡ Ok entry
      → unread ≡ unread_of given
      → unread ≡ unread_of (given ++ (read ∷ []))
  unread_kept given read entry unread is so_far = so_far ∙ sym (unread_same given entry) ∙ sym (ap (λ it. unread_of (given ++ (it ∷ []))) is)

  pub names_kept : (given : List (Result (DirEntry R A F D) E)) (read : Result (DirEntry R A F D) E) (error : E) (names : List (String Global))
      → read ≡ Err error
      → map string_bytes names ≡ names_of given
      → map string_bytes names ≡ names_of (given ++ (read ∷ []))
  names_kept given read error names is so_far = so_far ∙ sym (name_same given error) ∙ sym (ap (λ it. names_of (given ++ (it ∷ []))) is)

  pub unread_counted : (given : List (Result (DirEntry R A F D) E)) (read : Result (DirEntry R A F D) E) (error : E) (unread : ℕ)
      → read ≡ Err error
      → unread ≡ unread_of given
      → unread + 1 ≡ unread_of (given ++ (read ∷ []))
  unread_counted given read error unread is so_far =
      ap (λ n. n + 1) so_far ∙ sym (unread_more given error) ∙ sym (ap (λ it. unread_of (given ++ (it ∷ []))) is)
