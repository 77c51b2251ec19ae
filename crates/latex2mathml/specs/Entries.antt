-- What the system returns for a path and for a directory: the kind of what is there, the names of the entries, and how many
-- could not be read.
use Rattle.std.specs.Prelude.{ℕ, ◌+◌, List, [], ◌∷◌, Result, Ok, Err}
use Rattle.std.specs.{Fs.IsDir, Fs.IsFile, Fs.dir_entry_name, declared.fs.dir.DirEntry.DirEntry, declared.fs.FileType.FileType}
use Rattle.latex2mathml.specs.declared.files.site.PathKind.{PathKind}
use Rattle.latex2mathml.specs.declared.files.site.PathKind.TheVariants.{Directory, File, Other}

-- the kind that this file type of the system means
abbrev pub IsKind : FileType → PathKind → Type 0
IsKind found Directory = IsDir found
IsKind found File = IsFile found
IsKind found Other = ¬ (IsDir found) × ¬ (IsFile found)

module _ {R A F D E : Type 0} where
  abbrev pub names_of : List (Result (DirEntry R A F D) E) → List (List ℕ)
  names_of [] = []
  names_of (Ok entry ∷ given) = dir_entry_name entry ∷ names_of given
  names_of (Err error ∷ given) = names_of given

  abbrev pub unread_of : List (Result (DirEntry R A F D) E) → ℕ
  unread_of [] = 0
  unread_of (Ok entry ∷ given) = unread_of given
  unread_of (Err error ∷ given) = unread_of given + 1
