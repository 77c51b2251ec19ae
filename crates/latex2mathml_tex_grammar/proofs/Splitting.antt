-- What dividing an argument adds to it: nothing but what takes the place of bars.
use Rattle.std.proofs.Common.{ℕ, zero, suc, List, [], ◌∷◌, ◌++◌}
use Rattle.std.specs.Prelude.{⊤}
use Rattle.std.specs.{List.AllByRecursion}
use Rattle.latex2mathml_tex_grammar.specs.Bars.{Bars, FirstAsRelation, FirstStretched, EachStretched, Bar, NoBar, Whole, Half, Spot, AtAny, AtDelimiter, AtHalf, AtRest, at_place, bar_of, depth_behind, group_of, divided, divided_at, divided_in, divider, double_bar, split, split_from}
use Rattle.latex2mathml_tex_grammar.specs.Units.{Piece, Unit}

module _ (P : Piece → Type 0) where
  abbrev pub EachUnit : List Unit → Type 0
  EachUnit [] = ⊤
  EachUnit (u ∷ us) = P u.piece × EachUnit us

  pub both : (us vs : List Unit) → EachUnit us → EachUnit vs → EachUnit (us ++ vs)
  both [] vs h k = k
  both (u ∷ us) vs h k = (h.0, both us vs h.1 k)

  of_placed : (place : ℕ) (pieces : List Piece) → AllByRecursion P pieces → EachUnit (at_place place pieces)
  of_placed place [] h = tt
  of_placed place (p ∷ pieces) h = (h.0, of_placed place pieces h.1)

  -- what takes the place of a bar has the piece of the bar, if it has one
  of_divider : (bars : Bars) (bar : Piece) → P bar → AllByRecursion P (divider bars double_bar) → AllByRecursion P (divider bars bar)
  of_divider FirstAsRelation bar p h = h
  of_divider FirstStretched bar p h = (h.0, (h.1.0, (h.1.1.0, (p, h.1.1.1.1))))
  of_divider EachStretched bar p h = (h.0, (h.1.0, (h.1.1.0, (p, h.1.1.1.1))))

  module _ (bars : Bars) (added : AllByRecursion P (divider bars double_bar)) where
    of_divided : (bar : Bar) (u : Unit) → P u.piece → EachUnit (divided bars bar u).0
    of_divided NoBar u p = (p, tt)
    of_divided Whole u p = of_placed u.place (divider bars u.piece) (of_divider bars u.piece p added)
    of_divided Half u p = of_placed u.place (divider bars double_bar) added

    of_divided_at : (spot : Spot) (u : Unit) (us : List Unit) → P u.piece → EachUnit (divided_at spot bars u us).0
    of_divided_at AtAny u us p = of_divided (bar_of bars u.piece us) u p
    of_divided_at AtDelimiter u us p = (p, tt)
    of_divided_at AtHalf u us p = tt
    of_divided_at AtRest u us p = (p, tt)

    of_divided_in : (depth : ℕ) (spot : Spot) (u : Unit) (us : List Unit) → P u.piece → EachUnit (divided_in depth spot bars u us).0
    of_divided_in zero spot u us p = of_divided_at spot u us p
    of_divided_in (suc depth) spot u us p = (p, tt)

    of_rest : (depth : ℕ) (spot : Spot) (us : List Unit) → EachUnit us → EachUnit (split_from bars depth spot us)
    of_rest depth spot [] h = tt
    of_rest depth spot (u ∷ us) h =
        let step = divided_in depth spot bars u us in
        let next = depth_behind (group_of u.piece) depth in
        both step.0 (split_from bars next step.1 us) (of_divided_in depth spot u us h.0) (of_rest next step.1 us h.1)

    pub of_split : (us : List Unit) → EachUnit us → EachUnit (split bars us)
    of_split us h = of_rest 0 AtAny us h
