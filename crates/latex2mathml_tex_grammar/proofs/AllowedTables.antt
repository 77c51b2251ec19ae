-- No entry of the tables, and no character of the alphabets, is a character that XML forbids.
use Rattle.std.proofs.Common.{◌≡◌, ℕ, ◌+◌, ◌-◌, Bool, true, false, not, ◌&&◌, ◌==◌, IsTrue, List, [], ◌∷◌, Option, Some, None, refl, arith, nat_lt}
use Rattle.std.proofs.{lemmas.Bool.and_parts, lemmas.Bool.Decides.nat_tests, lemmas.Slice.Eq.bytes_eq-Decides}
use Rattle.std.specs.{Char.encode_utf8, List.list_all, Str.byte, Str.bytes_eq, Str.chars, Str.NonePass, Str.encode_utf8_all}
use Rattle.latex2mathml_elements.specs.Characters.{is_forbidden, IsAllowed}
use Rattle.latex2mathml_tex_grammar.specs.Alphabets.{Blocks, blocks, in_alphabet, in_blocks, in_optional_blocks, looked_up, moved}
use Rattle.latex2mathml_tex_grammar.specs.Commands.{command_entries, entry_meaning, entry_symbol, meaning_of, symbol_of}
use Rattle.latex2mathml_tex_grammar.specs.{CommandsUpToL.commands_up_to_l, CommandsFromM.commands_from_m, Signs.sign_entries, TextCommands.text_accents, TextCommands.text_commands}
use Rattle.latex2mathml_tex_grammar.specs.Delimiters.{delimiter_characters, delimiter_commands, delimiter_of, entry_of_character, entry_of_name, negated_characters, negated_commands, negated_of, text_of}
use Rattle.latex2mathml_tex_grammar.specs.Meaning.{Meaning, Implication, Shows, FunctionName, Accent, Brace, Arrow}
use Rattle.latex2mathml_tex_grammar.specs.Symbols.{Alphabet, Upright, Named, Italic, Bold, BoldItalic, DoubleStruck, Fraktur, Calligraphic, SansSerif, Monospace, Symbol, Letter, UprightLetter, Sign, BigOperator, Integral}
use Rattle.latex2mathml_tex_grammar.specs.Units.{Piece, Space, Open, Close, Command, Character}
use Rattle.latex2mathml_tex_grammar.proofs.Choices.{of_either}

-- Tests, so that tables are tested by computing

abbrev pub is_allowed : ℕ → Bool
is_allowed c = not (is_forbidden c)

abbrev pub is_allowed_symbol : Symbol → Bool
is_allowed_symbol (Letter c) = is_allowed c
is_allowed_symbol (UprightLetter c) = is_allowed c
is_allowed_symbol (Sign class c) = is_allowed c
is_allowed_symbol (BigOperator c) = is_allowed c
is_allowed_symbol (Integral c) = is_allowed c

abbrev pub is_allowed_text : List ℕ → Bool
is_allowed_text text = bytes_eq (encode_utf8_all (chars text)) text && list_all is_allowed (chars text)

abbrev pub is_allowed_meaning : Meaning → Bool
is_allowed_meaning (Shows s) = is_allowed_symbol s
is_allowed_meaning (FunctionName limits name) = is_allowed_text name
is_allowed_meaning (Accent side mark width) = is_allowed mark
is_allowed_meaning (Brace side mark) = is_allowed mark
is_allowed_meaning (Arrow sign_character) = is_allowed sign_character
is_allowed_meaning (Implication sign_character) = is_allowed sign_character
is_allowed_meaning meaning = true

pub not_forbidden : (c : ℕ) → is_allowed c ≡ true → is_forbidden c ≡ false
not_forbidden c h = grind arith

none_pass : (cs : List ℕ) → list_all is_allowed cs ≡ true → NonePass is_forbidden cs
none_pass [] h = tt
none_pass (c ∷ cs) h =
    let parts = and_parts (is_allowed c) (list_all is_allowed cs) h in (not_forbidden c parts.0, none_pass cs parts.1)

pub allowed_text : (text : List ℕ) → is_allowed_text text ≡ true → IsAllowed text
allowed_text text h =
    let parts = and_parts (bytes_eq (encode_utf8_all (chars text)) text) (list_all is_allowed (chars text)) h in
    (chars text, (bytes_eq-Decides (encode_utf8_all (chars text)) text).0 parts.0, none_pass (chars text) parts.1)

-- The tables pass

all_signs : list_all (λ e. is_allowed_symbol e.1) sign_entries ≡ true
unfolding sign_entries
all_signs = refl

all_commands : list_all (λ e. is_allowed_meaning e.1) command_entries ≡ true
unfolding command_entries commands_up_to_l commands_from_m chars encode_utf8
all_commands = refl

all_delimiter_commands : list_all (λ e. is_allowed e.1) delimiter_commands ≡ true
unfolding delimiter_commands
all_delimiter_commands = refl

all_delimiter_characters : list_all (λ e. is_allowed e.1) delimiter_characters ≡ true
unfolding delimiter_characters
all_delimiter_characters = refl

all_text_commands : list_all (λ e. is_allowed e.1) text_commands ≡ true
unfolding text_commands
all_text_commands = refl

all_text_accents : list_all (λ e. is_allowed e.1) text_accents ≡ true
unfolding text_accents
all_text_accents = refl

all_negated_commands : list_all (λ e. is_allowed e.1) negated_commands ≡ true
unfolding negated_commands
all_negated_commands = refl

all_negated_characters : list_all (λ e. is_allowed e.1) negated_characters ≡ true
unfolding negated_characters
all_negated_characters = refl

-- So does what is looked up in them

-- what is found passes the test
abbrev pub Passes : {A : Type 0} → (A → Bool) → Option A → Type 0
Passes test None = IsTrue true
Passes test (Some x) = IsTrue (test x)

found_meaning : (entries : List (List ℕ × Meaning)) (name : List ℕ) → list_all (λ e. is_allowed_meaning e.1) entries ≡ true → Passes is_allowed_meaning (entry_meaning entries name)
found_meaning [] name h = refl
found_meaning (entry ∷ entries) name h =
    let parts = and_parts (is_allowed_meaning entry.1) (list_all (λ e. is_allowed_meaning e.1) entries) h in
    of_either (Passes is_allowed_meaning) (bytes_eq entry.0 name) parts.0 (found_meaning entries name parts.1)

found_symbol : (entries : List (ℕ × Symbol)) (c : ℕ) → list_all (λ e. is_allowed_symbol e.1) entries ≡ true → Passes is_allowed_symbol (entry_symbol entries c)
found_symbol [] c h = refl
found_symbol (entry ∷ entries) c h =
    let parts = and_parts (is_allowed_symbol entry.1) (list_all (λ e. is_allowed_symbol e.1) entries) h in
    of_either (Passes is_allowed_symbol) (entry.0 == c) parts.0 (found_symbol entries c parts.1)

found_name : (entries : List (List ℕ × ℕ)) (name : List ℕ) → list_all (λ e. is_allowed e.1) entries ≡ true → Passes is_allowed (entry_of_name entries name)
found_name [] name h = refl
found_name (entry ∷ entries) name h =
    let parts = and_parts (is_allowed entry.1) (list_all (λ e. is_allowed e.1) entries) h in
    of_either (Passes is_allowed) (bytes_eq entry.0 name) parts.0 (found_name entries name parts.1)

found_character : (entries : List (ℕ × ℕ)) (c : ℕ) → list_all (λ e. is_allowed e.1) entries ≡ true → Passes is_allowed (entry_of_character entries c)
found_character [] c h = refl
found_character (entry ∷ entries) c h =
    let parts = and_parts (is_allowed entry.1) (list_all (λ e. is_allowed e.1) entries) h in
    of_either (Passes is_allowed) (entry.0 == c) parts.0 (found_character entries c parts.1)

pub meaning_passes : (name : List ℕ) → Passes is_allowed_meaning (meaning_of name)
unfolding meaning_of
meaning_passes name = found_meaning command_entries name all_commands

pub symbol_passes : (c : ℕ) → Passes is_allowed_symbol (symbol_of c)
unfolding symbol_of
symbol_passes c = found_symbol sign_entries c all_signs

-- the text of what was looked up
abbrev pub IsAllowedText : Option (List ℕ) → Type 0
IsAllowedText None = IsTrue true
IsAllowedText (Some text) = IsAllowed text

text_allowed : (found : Option ℕ) → Passes is_allowed found → IsAllowedText (text_of found)
text_allowed None h = refl
text_allowed (Some c) h = (c ∷ [], refl, (not_forbidden c h, tt))

pub delimiter_allowed : (piece : Piece) → IsAllowedText (delimiter_of piece)
delimiter_allowed Space = refl
delimiter_allowed Open = refl
delimiter_allowed Close = refl
delimiter_allowed (Command name) = text_allowed _ (found_name delimiter_commands name all_delimiter_commands)
delimiter_allowed (Character c) =
    of_either IsAllowedText (c == byte ".") ([], refl, tt) (text_allowed _ (found_character delimiter_characters c all_delimiter_characters))

pub text_command_passes : (name : List ℕ) → Passes is_allowed (entry_of_name text_commands name)
text_command_passes name = found_name text_commands name all_text_commands

pub text_accent_passes : (name : List ℕ) → Passes is_allowed (entry_of_name text_accents name)
text_accent_passes name = found_name text_accents name all_text_accents

pub negated_allowed : (piece : Piece) → IsAllowedText (negated_of piece)
negated_allowed Space = refl
negated_allowed Open = refl
negated_allowed Close = refl
negated_allowed (Command name) = text_allowed _ (found_name negated_commands name all_negated_commands)
negated_allowed (Character c) = text_allowed _ (found_character negated_characters c all_negated_characters)

-- Alphabets

abbrev is_high : Option ℕ → Bool
is_high None = true
is_high (Some c) = nat_lt 0xFFFF c

-- the blocks come after all characters that XML forbids
record AreHigh (b : Blocks) : Type 0 where
  capital : IsTrue (nat_lt 0xFFFF b.capital)
  small : IsTrue (nat_lt 0xFFFF b.small)
  digit : IsTrue (is_high b.digit)
  greek_capital : IsTrue (is_high b.greek_capital)
  greek_small : IsTrue (is_high b.greek_small)
  elsewhere : list_all (λ e. is_allowed e.1) b.elsewhere ≡ true

abbrev pub Keeps : (ℕ → ℕ) → Type 0
Keeps f = (c : ℕ) → is_forbidden c ≡ false → is_forbidden (f c) ≡ false

high_is_allowed : (block more : ℕ) → nat_lt 0xFFFF block ≡ true → is_forbidden (block + more) ≡ false
high_is_allowed block more h = grind (arith, nat_tests)

moved_allowed : (first : ℕ) (block : Option ℕ) → is_high block ≡ true → Keeps (moved first block)
moved_allowed first None high c h = h
moved_allowed first (Some block) high c h = high_is_allowed block (c - first) high

looked_up_allowed : (entries : List (ℕ × ℕ)) (c other : ℕ) → list_all (λ e. is_allowed e.1) entries ≡ true → is_forbidden other ≡ false → is_forbidden (looked_up entries c other) ≡ false
looked_up_allowed [] c other all h = h
looked_up_allowed (entry ∷ entries) c other all h =
    let parts = and_parts (is_allowed entry.1) (list_all (λ e. is_allowed e.1) entries) all in
    of_either (λ k. is_forbidden k ≡ false) (entry.0 == c) (not_forbidden entry.1 parts.0) (looked_up_allowed entries c other parts.1 h)

-- what holds of each place that a block gives holds of the one that is taken
in_one_block : (P : ℕ → Type 0) (b : Blocks) (c : ℕ) → P (moved 0x41 (Some b.capital) c) → P (moved 0x61 (Some b.small) c) → P (moved 0x30 b.digit c) → P (moved 0x0391 b.greek_capital c) → P (moved 0x03B1 b.greek_small c) → P c → P (in_blocks b c)
in_one_block P b c capital small digit greek_capital greek_small other =
    of_either P _ capital (of_either P _ small (of_either P _ digit (of_either P _ greek_capital (of_either P _ greek_small other))))

in_blocks_allowed : (b : Blocks) → AreHigh b → Keeps (in_blocks b)
in_blocks_allowed b high c h =
    in_one_block (λ k. is_forbidden k ≡ false) b c
    (moved_allowed 0x41 (Some b.capital) high.capital c h)
    (moved_allowed 0x61 (Some b.small) high.small c h)
    (moved_allowed 0x30 b.digit high.digit c h)
    (moved_allowed 0x0391 b.greek_capital high.greek_capital c h)
    (moved_allowed 0x03B1 b.greek_small high.greek_small c h)
    h

-- where there are any
abbrev AreHighIfAny : Option Blocks → Type 0
AreHighIfAny None = IsTrue true
AreHighIfAny (Some b) = AreHigh b

blocks_high : (alphabet : Alphabet) → AreHighIfAny (blocks alphabet)
blocks_high Upright = refl
blocks_high Named = refl
blocks_high Italic = record { capital = refl; small = refl; digit = refl; greek_capital = refl; greek_small = refl; elsewhere = refl }
blocks_high Bold = record { capital = refl; small = refl; digit = refl; greek_capital = refl; greek_small = refl; elsewhere = refl }
blocks_high BoldItalic = record { capital = refl; small = refl; digit = refl; greek_capital = refl; greek_small = refl; elsewhere = refl }
blocks_high DoubleStruck = record { capital = refl; small = refl; digit = refl; greek_capital = refl; greek_small = refl; elsewhere = refl }
blocks_high Fraktur = record { capital = refl; small = refl; digit = refl; greek_capital = refl; greek_small = refl; elsewhere = refl }
blocks_high Calligraphic = record { capital = refl; small = refl; digit = refl; greek_capital = refl; greek_small = refl; elsewhere = refl }
blocks_high SansSerif = record { capital = refl; small = refl; digit = refl; greek_capital = refl; greek_small = refl; elsewhere = refl }
blocks_high Monospace = record { capital = refl; small = refl; digit = refl; greek_capital = refl; greek_small = refl; elsewhere = refl }

optional_blocks_allowed : (b : Option Blocks) → AreHighIfAny b → Keeps (in_optional_blocks b)
optional_blocks_allowed None high c h = h
optional_blocks_allowed (Some b) high c h =
    looked_up_allowed b.elsewhere c (in_blocks b c) high.elsewhere (in_blocks_allowed b high c h)

pub in_alphabet_allowed : (alphabet : Alphabet) → Keeps (in_alphabet alphabet)
in_alphabet_allowed alphabet = optional_blocks_allowed (blocks alphabet) (blocks_high alphabet)
