-- The usual macros, which hold in every text, in the order of their names' bytes. A name and a body are their bytes, a name
-- without its backslash. A definition by the author takes precedence.
use Rattle.std.specs.Prelude.{ℕ, ◌||◌, Bool, List, [], ◌∷◌, ◌++◌, Option, Some, None, codes, if◌then◌else◌}
use Rattle.std.specs.{Option.unwrap_or, Str.bytes_eq, Str.chars}
use Rattle.latex2mathml_tex_grammar.specs.Bars.{Bars, FirstAsRelation, FirstStretched, EachStretched}
use Rattle.latex2mathml_tex_grammar.specs.{Cutting.units_of, Definitions.parts_of}
use Rattle.latex2mathml_tex_grammar.specs.Macros.{Part, Split, Parameter, Sign, Macro, macro, macro_of_parts, macro_taking, macro_with_default, parameters, Table}
use Rattle.latex2mathml_tex_grammar.specs.Units.{Command, Unit, Units, Next}

-- the name, how many arguments the macro takes, and the text of its body
unfoldable pub usual_entries : List (List ℕ × ℕ × List ℕ)
usual_entries =
    (codes "(", 0, codes "$") ∷
    (codes ")", 0, codes "$") ∷
    (codes "*", 0, codes "") ∷
    (codes "-", 0, codes "") ∷
    (codes "/", 0, codes "") ∷
    (codes "Acute", 0, codes "\\acute") ∷
    (codes "Bar", 0, codes "\\bar") ∷
    (codes "Bbbk", 0, codes "\\mathbb{k}") ∷
    (codes "Bra", 1, codes "\\left\\langle #1\\right|") ∷
    (codes "Breve", 0, codes "\\breve") ∷
    (codes "Check", 0, codes "\\check") ∷
    (codes "Colonapprox", 0, codes "\\mathrel{::\\approx}") ∷
    (codes "Coloneq", 0, codes "\\mathrel{::=}") ∷
    (codes "Coloneqq", 0, codes "\\mathrel{::=}") ∷
    (codes "Colonsim", 0, codes "\\mathrel{::\\sim}") ∷
    (codes "DOTSB", 0, codes "") ∷
    (codes "DOTSI", 0, codes "") ∷
    (codes "DOTSX", 0, codes "") ∷
    (codes "Ddot", 0, codes "\\ddot") ∷
    (codes "Dot", 0, codes "\\dot") ∷
    (codes "Eqcolon", 0, codes "\\mathrel{=::}") ∷
    (codes "Eqqcolon", 0, codes "\\mathrel{=::}") ∷
    (codes "Grave", 0, codes "\\grave") ∷
    (codes "Hat", 0, codes "\\hat") ∷
    (codes "KaTeX", 0, codes "\\text{KaTeX}") ∷
    (codes "Ket", 1, codes "\\left|#1\\right\\rangle") ∷
    (codes "Ketbra", 2, codes "\\left|{#1}\\right\\rangle\\left\\langle{#2}\\right|") ∷
    (codes "LaTeX", 0, codes "\\text{LaTeX}") ∷
    (codes "TeX", 0, codes "\\text{TeX}") ∷
    (codes "Tilde", 0, codes "\\tilde") ∷
    (codes "Vec", 0, codes "\\vec") ∷
    (codes "adjustlimits", 0, codes "") ∷
    (codes "allowbreak", 0, codes "") ∷
    (codes "approxcolon", 0, codes "\\mathrel{\\approx:}") ∷
    (codes "approxcoloncolon", 0, codes "\\mathrel{\\approx::}") ∷
    (codes "array", 1, codes "\\begin{matrix}#1\\end{matrix}") ∷
    (codes "begingroup", 0, codes "{") ∷
    (codes "bfseries", 0, codes "\\bf") ∷
    (codes "bgroup", 0, codes "{") ∷
    (codes "bigskip", 0, codes "") ∷
    (codes "bmod", 0, codes "\\mathbin{\\mathchoice{\\mkern1mu\\mathrm{mod}\\mkern1mu}{\\mkern1mu\\mathrm{mod}\\mkern1mu}{\\mkern5mu\\mathrm{mod}\\mkern5mu}{\\mkern5mu\\mathrm{mod}\\mkern5mu}}") ∷
    (codes "bra", 1, codes "\\mathinner{\\langle{#1}|}") ∷
    (codes "braket", 1, codes "\\mathinner{\\langle{#1}\\rangle}") ∷
    (codes "cancelto", 2, codes "{\\cancel{#2}^{#1}}") ∷
    (codes "celsius", 0, codes "\\text{\\textdegree C}") ∷
    (codes "centering", 0, codes "") ∷
    (codes "centernot", 0, codes "\\not") ∷
    (codes "clap", 1, codes "\\mathclap{\\text{#1}}") ∷
    (codes "class", 2, codes "#2") ∷
    (codes "colon", 0, codes "\\mskip2mu\\mathord{:}\\mskip6mu") ∷
    (codes "colonapprox", 0, codes "\\mathrel{:\\approx}") ∷
    (codes "coloncolonapprox", 0, codes "\\mathrel{::\\approx}") ∷
    (codes "coloncolonequals", 0, codes "\\mathrel{::=}") ∷
    (codes "coloncolonminus", 0, codes "\\mathrel{::\\relbar}") ∷
    (codes "coloncolonsim", 0, codes "\\mathrel{::\\sim}") ∷
    (codes "coloneq", 0, codes "\\mathrel{:=}") ∷
    (codes "coloneqq", 0, codes "\\mathrel{:=}") ∷
    (codes "colonminus", 0, codes "\\mathrel{:\\relbar}") ∷
    (codes "colonsim", 0, codes "\\mathrel{:\\sim}") ∷
    (codes "colorbox", 2, codes "\\mathcolorbox{#1}{\\text{#2}}") ∷
    (codes "cssId", 2, codes "#2") ∷
    (codes "ddddot", 1, codes "\\overset{....}{#1}") ∷
    (codes "displaylines", 1, codes "\\begin{gathered}#1\\end{gathered}") ∷
    (codes "dotsb", 0, codes "\\cdots") ∷
    (codes "dotsc", 0, codes "\\ldots") ∷
    (codes "dotsi", 0, codes "\\cdots") ∷
    (codes "dotsm", 0, codes "\\cdots") ∷
    (codes "dotso", 0, codes "\\ldots") ∷
    (codes "dotsx", 0, codes "\\ldots\\,") ∷
    (codes "egroup", 0, codes "}") ∷
    (codes "em", 0, codes "\\it") ∷
    (codes "endgroup", 0, codes "}") ∷
    (codes "ensuremath", 1, codes "#1") ∷
    (codes "eqalign", 1, codes "\\begin{aligned}#1\\end{aligned}") ∷
    (codes "eqalignno", 1, codes "\\begin{aligned}#1\\end{aligned}") ∷
    (codes "eqno", 0, codes "\\qquad\\textstyle") ∷
    (codes "equalscoloncolon", 0, codes "\\mathrel{=::}") ∷
    (codes "fbox", 1, codes "\\boxed{\\text{#1}}") ∷
    (codes "global", 0, codes "") ∷
    (codes "hdots", 0, codes "\\ldots") ∷
    (codes "hfil", 0, codes "") ∷
    (codes "hfill", 0, codes "") ∷
    (codes "hfilll", 0, codes "") ∷
    (codes "href", 2, codes "#2") ∷
    (codes "htmlClass", 2, codes "#2") ∷
    (codes "htmlData", 2, codes "#2") ∷
    (codes "htmlId", 2, codes "#2") ∷
    (codes "htmlStyle", 2, codes "#2") ∷
    (codes "idotsint", 0, codes "\\int\\cdots\\int") ∷
    (codes "ignorespaces", 0, codes "") ∷
    (codes "index", 1, codes "") ∷
    (codes "intertext", 1, codes "\\\\\\mathrlap{\\text{#1}}\\\\") ∷
    (codes "itshape", 0, codes "\\it") ∷
    (codes "ket", 1, codes "\\mathinner{|{#1}\\rangle}") ∷
    (codes "ketbra", 2, codes "\\mathinner{|{#1}\\rangle\\langle{#2}|}") ∷
    (codes "label", 1, codes "") ∷
    (codes "leavevmode", 0, codes "") ∷
    (codes "lefteqn", 1, codes "\\mathrlap{\\displaystyle #1}") ∷
    (codes "leftroot", 1, codes "") ∷
    (codes "leqalignno", 1, codes "\\begin{aligned}#1\\end{aligned}") ∷
    (codes "leqno", 0, codes "\\qquad\\textstyle") ∷
    (codes "llap", 1, codes "\\mathllap{\\text{#1}}") ∷
    (codes "long", 0, codes "") ∷
    (codes "lq", 0, codes "`") ∷
    (codes "mathpalette", 2, codes "\\mathchoice{#1\\displaystyle{#2}}{#1\\textstyle{#2}}{#1\\scriptstyle{#2}}{#1\\scriptscriptstyle{#2}}") ∷
    (codes "mathstrut", 0, codes "\\vphantom{(}") ∷
    (codes "mathtoolsset", 1, codes "") ∷
    (codes "matrix", 1, codes "\\begin{matrix}#1\\end{matrix}") ∷
    (codes "mdseries", 0, codes "") ∷
    (codes "medskip", 0, codes "") ∷
    (codes "minuscoloncolon", 0, codes "\\mathrel{\\relbar::}") ∷
    (codes "mod", 1, codes "\\mathchoice{\\mkern18mu}{\\mkern12mu}{\\mkern12mu}{\\mkern12mu}\\mathrm{mod}\\,\\,#1") ∷
    (codes "nicefrac", 2, codes "{\\raisemath{0.5ex}{\\scriptstyle #1}\\mkern-1.8mu/\\mkern-2.7mu\\raisemath{-0.25ex}{\\scriptstyle #2}}") ∷
    (codes "nobreak", 0, codes "") ∷
    (codes "noindent", 0, codes "") ∷
    (codes "nonumber", 0, codes "") ∷
    (codes "normalfont", 0, codes "") ∷
    (codes "notag", 0, codes "") ∷
    (codes "null", 0, codes "{}") ∷
    (codes "openone", 0, codes "\\mathbb{1}") ∷
    (codes "operatornamewithlimits", 0, codes "\\operatorname*") ∷
    (codes "overunderset", 3, codes "\\overset{#1}{\\underset{#2}{#3}}") ∷
    (codes "pmatrix", 1, codes "\\begin{pmatrix}#1\\end{pmatrix}") ∷
    (codes "pmod", 1, codes "\\pod{\\mathrm{mod}\\mkern6mu#1}") ∷
    (codes "pod", 1, codes "\\mathchoice{\\mkern18mu}{\\mkern8mu}{\\mkern8mu}{\\mkern8mu}(#1)") ∷
    (codes "prescript", 3, codes "{\\vphantom{#3}}^{#1}_{#2}#3") ∷
    (codes "protect", 0, codes "") ∷
    (codes "qed", 0, codes "\\square") ∷
    (codes "qedhere", 0, codes "\\qquad\\square") ∷
    (codes "raisebox", 2, codes "\\raisemath{#1}{\\text{#2}}") ∷
    (codes "relax", 0, codes "") ∷
    (codes "require", 1, codes "") ∷
    (codes "rlap", 1, codes "\\mathrlap{\\text{#1}}") ∷
    (codes "rmfamily", 0, codes "\\rm") ∷
    (codes "rq", 0, codes "'") ∷
    (codes "sb", 0, codes "_") ∷
    (codes "sc", 0, codes "") ∷
    (codes "scr", 0, codes "\\cal") ∷
    (codes "scshape", 0, codes "") ∷
    (codes "setlength", 2, codes "") ∷
    (codes "sffamily", 0, codes "\\sf") ∷
    (codes "sfrac", 2, codes "{\\raisemath{0.5ex}{\\scriptstyle #1}\\mkern-1.8mu/\\mkern-2.7mu\\raisemath{-0.25ex}{\\scriptstyle #2}}") ∷
    (codes "shortintertext", 1, codes "\\\\\\mathrlap{\\text{#1}}\\\\") ∷
    (codes "shoveleft", 1, codes "#1") ∷
    (codes "shoveright", 1, codes "#1") ∷
    (codes "sideset", 3, codes "\\mathop{\\vphantom{#3}#1\\!#3\\nolimits#2}") ∷
    (codes "simcolon", 0, codes "\\mathrel{\\sim:}") ∷
    (codes "simcoloncolon", 0, codes "\\mathrel{\\sim::}") ∷
    (codes "skew", 3, codes "{#2{#3\\mkern#1mu}\\mkern-#1mu}") ∷
    (codes "sl", 0, codes "\\it") ∷
    (codes "slash", 0, codes "/") ∷
    (codes "slshape", 0, codes "\\it") ∷
    (codes "smallskip", 0, codes "") ∷
    (codes "sp", 0, codes "^") ∷
    (codes "splitdfrac", 2, codes "\\genfrac{}{}{0pt}{0}{#1\\quad}{\\quad #2}") ∷
    (codes "splitfrac", 2, codes "\\genfrac{}{}{0pt}{1}{#1\\quad}{\\quad #2}") ∷
    (codes "strut", 0, codes "\\vphantom{(}") ∷
    (codes "style", 2, codes "#2") ∷
    (codes "textsubscript", 1, codes "\\mbox{$_{\\mbox{#1}}$}") ∷
    (codes "textsuperscript", 1, codes "\\mbox{$^{\\mbox{#1}}$}") ∷
    (codes "ttfamily", 0, codes "\\tt") ∷
    (codes "unskip", 0, codes "") ∷
    (codes "uproot", 1, codes "") ∷
    (codes "upshape", 0, codes "") ∷
    (codes "varDelta", 0, codes "\\mathit{\\Delta}") ∷
    (codes "varGamma", 0, codes "\\mathit{\\Gamma}") ∷
    (codes "varLambda", 0, codes "\\mathit{\\Lambda}") ∷
    (codes "varOmega", 0, codes "\\mathit{\\Omega}") ∷
    (codes "varPhi", 0, codes "\\mathit{\\Phi}") ∷
    (codes "varPi", 0, codes "\\mathit{\\Pi}") ∷
    (codes "varPsi", 0, codes "\\mathit{\\Psi}") ∷
    (codes "varSigma", 0, codes "\\mathit{\\Sigma}") ∷
    (codes "varTheta", 0, codes "\\mathit{\\Theta}") ∷
    (codes "varUpsilon", 0, codes "\\mathit{\\Upsilon}") ∷
    (codes "varXi", 0, codes "\\mathit{\\Xi}") ∷
    (codes "varinjlim", 0, codes "\\operatorname*{\\underrightarrow{\\mathrm{lim}}}") ∷
    (codes "varliminf", 0, codes "\\operatorname*{\\underline{\\mathrm{lim}}}") ∷
    (codes "varlimsup", 0, codes "\\operatorname*{\\overline{\\mathrm{lim}}}") ∷
    (codes "varprojlim", 0, codes "\\operatorname*{\\underleftarrow{\\mathrm{lim}}}") ∷
    (codes "vcenter", 1, codes "{#1}") ∷
    (codes "vv", 1, codes "\\overrightarrow{#1}") ∷
    (codes "xspace", 0, codes "") ∷
    []

-- the units as a list
abbrev pub listed : Units → List Unit
listed (Next u l) = u ∷ listed l
listed l = []

-- the body with this text, where there are n arguments
abbrev pub body_with : ℕ → List ℕ → List Part
body_with n text = unwrap_or (parts_of n (listed (units_of 0 (chars text)))) []

-- the macro with this many arguments, whose body has this text
abbrev pub macro_with : ℕ → List ℕ → Macro
macro_with arity text = macro arity (body_with arity text)

-- the macro of the first entry of this name
abbrev pub entry_macro : List (List ℕ × ℕ × List ℕ) → Table
entry_macro [] name = None
entry_macro (entry ∷ entries) name = if bytes_eq entry.0 name then Some (macro_with entry.1 entry.2) else entry_macro entries name

-- a usual macro that takes more than arguments, or whose argument is divided by bars
pub data Other : Type 0 where
  -- two arguments, the first of which ends before this command, with the text of the body
  Divided : List ℕ → List ℕ → Other
  -- one argument, and a star if one comes next, with the text of the body after a star, and without one
  Starred : List ℕ → List ℕ → Other
  -- this many arguments, the first of which is in brackets or left out, with the text of the body
  Optional : ℕ → List ℕ → Other
  -- one argument that these bars divide, between these two texts
  Enclosed : Bars → List ℕ → List ℕ → Other

-- whether it has the name of a command that breaks lines or pages, or does not: how much, may follow in brackets
abbrev pub is_break : List ℕ → Bool
is_break name =
    bytes_eq name (codes "allowdisplaybreaks") || bytes_eq name (codes "displaybreak") || bytes_eq name (codes "linebreak")
    || bytes_eq name (codes "nolinebreak") || bytes_eq name (codes "nopagebreak") || bytes_eq name (codes "pagebreak")

-- the one that has this name, if one does
abbrev pub other_named : List ℕ → Option Other
other_named name =
    if is_break name then Some (Optional 1 [])
    else if bytes_eq name (codes "Braket") then Some (Enclosed EachStretched (codes "\\left\\langle{") (codes "}\\right\\rangle"))
    else if bytes_eq name (codes "Set") then Some (Enclosed FirstStretched (codes "\\left\\{\\:{") (codes "}\\:\\right\\}"))
    else if bytes_eq name (codes "bbox") then Some (Optional 2 (codes "#2"))
    else if bytes_eq name (codes "buildrel") then Some (Divided (codes "over") (codes "\\stackrel{#1}{#2}"))
    else if bytes_eq name (codes "lower") then Some (Divided (codes "hbox") (codes "\\raisebox{-#1}{#2}"))
    else if bytes_eq name (codes "raise") then Some (Divided (codes "hbox") (codes "\\raisebox{#1}{#2}"))
    else if bytes_eq name (codes "root") then Some (Divided (codes "of") (codes "\\sqrt[{#1}]{#2}"))
    else if bytes_eq name (codes "set") then Some (Enclosed FirstAsRelation (codes "\\mathinner{\\lbrace\\,{") (codes "}\\,\\rbrace}"))
    else if bytes_eq name (codes "tag") then Some (Starred (codes "\\qquad\\text{#1}") (codes "\\qquad\\text{(#1)}"))
    else if bytes_eq name (codes "vspace") then Some (Starred [] [])
    else None

-- its macro
abbrev pub other_macro : Other → Macro
other_macro (Divided command text) = macro_taking (Parameter ∷ Sign (Command command) ∷ Parameter ∷ []) (body_with 2 text)
other_macro (Starred starred text) = macro_of_parts (Some (body_with 1 starred)) None (parameters 1) (body_with 1 text)
other_macro (Optional n text) = macro_with_default (Some []) n (body_with n text)
other_macro (Enclosed bars left right) = macro 1 (body_with 0 left ++ Split bars 0 ∷ body_with 0 right)

-- the macro of this one, if there is one, or else the one that was found
abbrev pub other_or : Option Other → Option Macro → Option Macro
other_or (Some other) found = Some (other_macro other)
other_or None found = found

-- what a name means among the usual macros, if it is one of theirs
unfoldable pub usual_macros : Table
usual_macros name = other_or (other_named name) (entry_macro usual_entries name)
