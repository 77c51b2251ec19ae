-- What a document is called, what a walk asks of a site, and which list the walk returns.
use Rattle.std.specs.Prelude.{◌≡◌, ◌≢◌, ◌⊎◌, ◌==◌, ◌-◌, ⊤, ℕ, List, [], ◌∷◌, ◌++◌, All, IsPermutation, Option, None, Some, Result, Ok, Err, length, slice_index, String, codes, string_bytes, if◌then◌else◌}
use Rattle.std.specs.{Cmp.Lexicographic.slice_cmp, List.Sorted.IsSortedByKey, Ordering.nat_cmp, Str.byte, declared.alloc.Global.Global}
use Rattle.latex2mathml.specs.{declared.error.FileFault.FileFault, declared.files.Unconverted.Unconverted}
use Rattle.latex2mathml.specs.declared.error.FileFault.TheVariants.{List as Unlisted, Entry, TooDeep, Read, NotText, Refused, Create, Write}
use Rattle.latex2mathml.specs.{declared.files.site.Listing.Listing, declared.files.site.PathKind.PathKind}
use Rattle.latex2mathml.specs.declared.files.site.PathKind.TheVariants.{Directory, File, Other}

abbrev pub slash : ℕ
slash = byte "/"

abbrev pub last_byte : List ℕ → ℕ
last_byte path = slice_index path (length path - 1)

-- the path of a document: its name, which is what follows the last slash, ends in `.html` and is longer than that
abbrev pub IsDocumentPath : List ℕ → Type 0
IsDocumentPath path =
    (stem : List ℕ)
    × (path ≡ stem ++ codes ".html")
    × (stem ≢ [])
    × (last_byte stem ≢ slash)

-- the path of an entry of a directory: a slash separates the two, and none is added after a path that ends in one
abbrev pub entry_path : List ℕ → List ℕ → List ℕ
entry_path directory name =
    if last_byte directory == slash then directory ++ name else directory ++ (slash ∷ name)

-- why a document was not read, or has no answer
abbrev pub IsReadingFault : FileFault → Type 0
IsReadingFault Read = ⊤
IsReadingFault NotText = ⊤
IsReadingFault (Refused error) = ⊤
IsReadingFault _ = ⊥

-- why a document was not written, or not whole
abbrev pub IsWritingFault : FileFault → Type 0
IsWritingFault Create = ⊤
IsWritingFault (Write written cause) = ⊤
IsWritingFault _ = ⊥

-- why a document was not converted
abbrev pub IsDocumentFault : FileFault → Type 0
IsDocumentFault fault = IsReadingFault fault ⊎ IsWritingFault fault

-- the names, in the order of their bytes
abbrev pub Ascend : List (String Global) → Type 0
Ascend names = IsSortedByKey string_bytes (slice_cmp nat_cmp) names

-- the member of the list has this path and this fault
abbrev pub IsListed : List ℕ → FileFault → Unconverted → Type 0
IsListed path fault unconverted = (string_bytes unconverted.path ≡ path) × (unconverted.fault ≡ fault)

-- what a site was asked about a path, and what it answered
pub data Answer : Type 0 where
  -- the kind of what is at the path
  Stands : List ℕ → PathKind → Answer
  -- what the directory holds, or that it cannot be listed
  Holds : List ℕ → Option Listing → Answer
  -- the document was converted, or why it was not
  Comes : List ℕ → Result Unit FileFault → Answer

-- between two states in which the answers are known, the site gave these answers and no others
abbrev pub Answered : Option (List Answer) → Option (List Answer) → List Answer → Type 0
Answered None new answers = ⊤
Answered (Some before) None answers = ⊥
Answered (Some before) (Some after) answers = after ≡ before ++ answers

-- the site gave this answer and no other
abbrev pub IsAsked : Option (List Answer) → Option (List Answer) → Answer → Type 0
IsAsked old new answer = Answered old new (answer ∷ [])

-- what is left alone: anything that is neither a file nor a directory, and a file that is not a document
abbrev pub IsLeftAlone : List ℕ → PathKind → Type 0
IsLeftAlone path Directory = ⊥
IsLeftAlone path File = ¬ IsDocumentPath path
IsLeftAlone path Other = ⊤

mutual
  -- what a walk of a path lists if it reads the given number of levels of directories and gets these answers from the site
  pub data Lists : ℕ → List ℕ → List Answer → List Unconverted → Type 0 where
    -- what is left alone
    Left : {levels : ℕ} {path : List ℕ} {kind : PathKind}
        → IsLeftAlone path kind
        → Lists levels path (Stands path kind ∷ []) []
    -- a document that was converted
    Converted : {levels : ℕ} {path : List ℕ}
        → IsDocumentPath path
        → Lists levels path (Stands path File ∷ Comes path (Ok tt) ∷ []) []
    -- a document that was not converted
    NotConverted : {levels : ℕ} {path : List ℕ} {fault : FileFault} {one : Unconverted}
        → IsDocumentPath path
        → IsDocumentFault fault
        → IsListed path fault one
        → Lists levels path (Stands path File ∷ Comes path (Err fault) ∷ []) (one ∷ [])
    -- a directory below the levels that are read
    TooLow : {levels : ℕ} {path : List ℕ} {one : Unconverted}
        → levels ≡ 0
        → IsListed path TooDeep one
        → Lists levels path (Stands path Directory ∷ []) (one ∷ [])
    -- a directory that was not listed
    NotListed : {levels : ℕ} {path : List ℕ} {one : Unconverted}
        → levels ≢ 0
        → IsListed path Unlisted one
        → Lists levels path (Stands path Directory ∷ Holds path None ∷ []) (one ∷ [])
    -- a directory: each of its entries that was not read, then the walks of all others in the order of their names
    Listed : {levels : ℕ} {path : List ℕ} {listing : Listing} {answers : List Answer} {all : List Unconverted}
        → levels ≢ 0
        → (unread walked : List Unconverted)
        → All (IsListed path Entry) unread
        → length unread ≡ listing.unread
        → (names : List (String Global))
        → IsPermutation listing.names.items names
        → Ascend names
        → ListsEach (levels - 1) path names answers walked
        → all ≡ unread ++ walked
        → Lists levels path (Stands path Directory ∷ Holds path (Some listing) ∷ answers) all

  -- what the walks of entries of a directory list
  pub data ListsEach : ℕ → List ℕ → List (String Global) → List Answer → List Unconverted → Type 0 where
    NoMore : {levels : ℕ} {path : List ℕ} → ListsEach levels path [] [] []
    Next : {levels : ℕ} {path : List ℕ} {name : String Global} {names : List (String Global)} {answers : List Answer} {all : List Unconverted}
        → (first others : List Answer)
        → (here rest : List Unconverted)
        → Lists levels (entry_path path (string_bytes name)) first here
        → ListsEach levels path names others rest
        → answers ≡ first ++ others
        → all ≡ here ++ rest
        → ListsEach levels path (name ∷ names) answers all

-- between two states of the site, a walk of the path added to the list what is due for all answers that it got
abbrev pub IsWalked : ℕ → List ℕ → Option (List Answer) → Option (List Answer) → List Unconverted → List Unconverted → Type 0
IsWalked levels path before after old new =
    (answers : List Answer)
    × (found : List Unconverted)
    × Answered before after answers
    × (new ≡ old ++ found)
    × Lists levels path answers found

-- what a walk of the path lists, given some answers
abbrev pub IsWalk : ℕ → List ℕ → List Unconverted → Type 0
IsWalk levels path unconverted = (answers : List Answer) × Lists levels path answers unconverted

-- how many levels of directories are read
abbrev pub levels_read : ℕ
levels_read = 64

-- between two states of the site, the path was walked down to these levels, and this is the list
abbrev pub IsWhollyWalked : List ℕ → Option (List Answer) → Option (List Answer) → List Unconverted → Type 0
IsWhollyWalked path before after unconverted = IsWalked levels_read path before after [] unconverted
