-- Markup: the events that bytes are cut into (tags, references and data), and when their elements are balanced. Nothing
-- here depends on formulas.
use Rattle.std.specs.Prelude.{◌≡◌, ℕ, Bool, true, false, not, ◌&&◌, ◌||◌, IsTrue, List, [], ◌∷◌, ◌++◌, Option, Some, None, option_and_then, if◌then◌else◌, codes}
use Rattle.std.specs.{Str.bytes_eq, Char.is_ascii_alphabetic, Char.is_ascii_hexdigit, Char.is_ascii_lowercase, List.flat_map, List.list_all}
use Rattle.latex2mathml_tokens.specs.Among.{is_among}

-- the name of an element or of an attribute, as its bytes
abbrev pub Name : Type 0
Name = List ℕ

-- a reference to a character: `&`, letters and `;`, or `&#x`, hexadecimal digits and `;`
pub data Reference : Type 0 where
  named : List ℕ → Reference
  numbered : List ℕ → Reference

-- a part of an attribute's value
pub data Part : Type 0 where
  refers : Reference → Part
  plain : ℕ → Part

-- an attribute: its name, and the parts of its value
pub data Attribute : Type 0 where
  attribute : Name → List Part → Attribute

-- an event of markup: a tag, a reference, or a byte of data
pub data Event : Type 0 where
  open_tag : Name → List Attribute → Event
  close_tag : Name → Event
  empty_tag : Name → List Attribute → Event
  reference : Reference → Event
  data_byte : ℕ → Event

-- one byte or more, each of which passes the test
abbrev pub is_word : (ℕ → Bool) → List ℕ → Bool
is_word test [] = false
is_word test (b ∷ bs) = test b && list_all test bs

-- names are lower-case letters
abbrev pub is_name : Name → Bool
is_name = is_word is_ascii_lowercase

-- whether a reference is well formed
abbrev pub is_reference : Reference → Bool
is_reference (named letters) = is_word is_ascii_alphabetic letters
is_reference (numbered digits) = is_word is_ascii_hexdigit digits

-- a byte of data is neither a bracket of tags nor the first byte of references
abbrev pub is_data : ℕ → Bool
is_data b = not (is_among b (codes "<>&"))

-- within a value it is not the quotation mark either
abbrev pub is_part : Part → Bool
is_part (refers r) = is_reference r
is_part (plain b) = not (is_among b (codes "<>&\""))

-- whether an attribute is well formed
abbrev pub is_attribute : Attribute → Bool
is_attribute (attribute name parts) = is_name name && list_all is_part parts

-- whether an event is well formed
abbrev pub is_event : Event → Bool
is_event (open_tag name attributes) = is_name name && list_all is_attribute attributes
is_event (close_tag name) = is_name name
is_event (empty_tag name attributes) = is_name name && list_all is_attribute attributes
is_event (reference r) = is_reference r
is_event (data_byte b) = is_data b

-- the bytes of each
abbrev pub spell_reference : Reference → List ℕ
spell_reference (named letters) = codes "&" ++ (letters ++ codes ";")
spell_reference (numbered digits) = codes "&#x" ++ (digits ++ codes ";")

-- how a part of a value is written
abbrev pub spell_part : Part → List ℕ
spell_part (refers r) = spell_reference r
spell_part (plain b) = b ∷ []

-- how an attribute is written
abbrev pub spell_attribute : Attribute → List ℕ
spell_attribute (attribute name parts) = codes " " ++ (name ++ (codes "=\"" ++ (flat_map spell_part parts ++ codes "\"")))

-- how an event is written
abbrev pub spell_event : Event → List ℕ
spell_event (open_tag name attributes) = codes "<" ++ (name ++ (flat_map spell_attribute attributes ++ codes ">"))
spell_event (close_tag name) = codes "</" ++ (name ++ codes ">")
spell_event (empty_tag name attributes) = codes "<" ++ (name ++ (flat_map spell_attribute attributes ++ codes "/>"))
spell_event (reference r) = spell_reference r
spell_event (data_byte b) = b ∷ []

-- how events are written
abbrev pub spell : List Event → List ℕ
spell = flat_map spell_event

-- The open elements, each above the one that it is in. Each has its name, the names of its children so far, the last one
-- first, and whether data or a reference was met in it. The lowest level is the markup itself, without a name.
pub data OpenElements : Type 0 where
  lowest : List Name → Bool → OpenElements
  above : Name → List Name → Bool → OpenElements → OpenElements

-- before any event
abbrev pub at_start : OpenElements
at_start = lowest [] false

-- one more child of the highest level
abbrev pub add : Name → OpenElements → OpenElements
add name (lowest children has_text) = lowest (name ∷ children) has_text
add name (above own children has_text below) = above own (name ∷ children) has_text below

-- data or a reference was met in the highest level, if the flag says so
abbrev pub mark : Bool → OpenElements → OpenElements
mark met (lowest children has_text) = lowest children (has_text || met)
mark met (above own children has_text below) = above own children (has_text || met) below

-- the name of the highest level, if it has one
abbrev pub name_of : OpenElements → Option Name
name_of (lowest children has_text) = None
name_of (above own children has_text below) = Some own

-- what an element must be like when it ends: its parent's name, its own, its children's, the last one first, and whether
-- there is data or a reference in it
abbrev pub Schema : Type 0
Schema = Option Name → Name → List Name → Bool → Bool

-- the schema that every element obeys
abbrev pub any_element : Schema
any_element parent name children has_text = true

-- An open tag is a child of the highest level, and becomes the highest level. A close tag needs its own name there, and
-- removes that level. An empty tag is a child that ends at once.
abbrev pub step : Schema → Event → OpenElements → Option OpenElements
step schema (open_tag name attributes) levels = Some (above name [] false (add name levels))
step schema (close_tag name) (lowest children has_text) = None
step schema (close_tag name) (above own children has_text below) =
    if bytes_eq name own && schema (name_of below) own children has_text then Some below else None
step schema (empty_tag name attributes) levels = if schema (name_of levels) name [] false then Some (add name levels) else None
step schema (reference r) levels = Some (mark true levels)
step schema (data_byte b) levels = Some (mark true levels)

-- the open elements after these events in turn, if the schema allows each event
abbrev pub run : Schema → List Event → OpenElements → Option OpenElements
run schema [] levels = Some levels
run schema (event ∷ events) levels = option_and_then (run schema events) (step schema event levels)

-- the bytes have a cut into events, which under the schema runs from the open elements `start` to `end`
pub record Runs (schema : Schema) (bytes : List ℕ) (start end : OpenElements) : Type 0 where
  pub events : List Event
  pub are_events : IsTrue (list_all is_event events)
  pub spelled : spell events ≡ bytes
  pub runs : run schema events start ≡ Some end

-- each element is closed: at the end the lowest level is alone, whatever it holds
abbrev pub IsBalanced : List ℕ → Type 0
IsBalanced bytes = (children : List Name) × ((has_text : Bool) × Runs any_element bytes at_start (lowest children has_text))

-- one element of this name, with nothing around it, which obeys the schema with everything in it
abbrev pub IsElement : Schema → Name → List ℕ → Type 0
IsElement schema name bytes = Runs schema bytes at_start (lowest (name ∷ []) false)
