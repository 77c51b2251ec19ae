-- The tables of characters, and a look-up in them.
use Rattle.std.proofs.Common.{◌≡◌, ℕ, ◌<◌, true, List, map, length, get_or, Option, Some, None, MatchOption, option_map, refl, sym, ap, ◌∙◌, arith}
use Rattle.std.specs.List.{range_with_len}
use Rattle.std.proofs.lemmas.{List.length-map, List.get_or-map, List.FromFn.get_or-map-range_with_len, List.FromFn.length-map-range_with_len}
use Rattle.latex2mathml_tex_grammar.specs.{Commands.entry_symbol, Commands.symbol_of, Signs.sign_entries, Sorted.ascending_numbers}
use Rattle.latex2mathml_tex_grammar.proofs.Tables.{ascending-sign_entries}
use Rattle.latex2mathml_tex_commands.specs.{declared.meaning.Symbol.Symbol, declared.signs.SignEntry.SignEntry, Signs.ascii_symbols, Signs.entry_of}
use Rattle.latex2mathml_tex_commands.specs.Meanings as meanings

length-sign_entries : length sign_entries ≡ 482
unfolding sign_entries
length-sign_entries = refl

pub ordered : (entries : List SignEntry) → map entry_of entries ≡ sign_entries → ascending_numbers (map entry_of entries) ≡ true
ordered entries e = ap ascending_numbers e ∙ ascending-sign_entries

pub few : (entries : List SignEntry) → map entry_of entries ≡ sign_entries → length entries < 512
few entries e =
    let same : length (map entry_of entries) ≡ length entries = simp length-map in
    omega (arith, same, ap length e, length-sign_entries)

-- what a look-up says about the symbol that it returned
abbrev pub IsAnswer : ℕ → Option Symbol → Type 0
IsAnswer c result = MatchOption result (symbol_of c ≡ None) (λ symbol. symbol_of c ≡ Some (meanings.symbol_of symbol))

answers : (c : ℕ) (result : Option Symbol) → symbol_of c ≡ option_map meanings.symbol_of result → IsAnswer c result
answers c None e = e
answers c (Some symbol) e = e

pub found_ascii : (symbols : List (Option Symbol)) (c : ℕ) (result : Option Symbol) → map (option_map meanings.symbol_of) symbols ≡ ascii_symbols → c < length symbols → result ≡ get_or symbols c result → IsAnswer c result
unfolding ascii_symbols
found_ascii symbols c result e h is =
    let same : length (map (option_map meanings.symbol_of) symbols) ≡ length symbols = simp length-map in
    let inside : c < 128 = omega (arith, same, ap length e, length-map-range_with_len symbol_of 0 128) in
    let here : get_or (map (option_map meanings.symbol_of) symbols) c None ≡ option_map meanings.symbol_of (get_or symbols c result) = get_or-map (option_map meanings.symbol_of) symbols c result None h in
    let there : get_or (map symbol_of (range_with_len 0 128)) c None ≡ symbol_of c = get_or-map-range_with_len symbol_of 0 128 c c None inside (omega arith) in
    answers c result (sym there ∙ ap (λ t. get_or t c None) (sym e) ∙ here ∙ ap (option_map meanings.symbol_of) (sym is))

pub found_entry : (entries : List SignEntry) (c : ℕ) (result : Option Symbol) → map entry_of entries ≡ sign_entries → MatchOption result (entry_symbol (map entry_of entries) c ≡ None) (λ symbol. entry_symbol (map entry_of entries) c ≡ Some (meanings.symbol_of symbol)) → IsAnswer c result
unfolding symbol_of
found_entry entries c None e found = ap (λ t. entry_symbol t c) (sym e) ∙ found
found_entry entries c (Some symbol) e found = ap (λ t. entry_symbol t c) (sym e) ∙ found
