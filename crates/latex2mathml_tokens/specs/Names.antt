-- The texts that tokens may hold, and their names.
use Rattle.std.specs.{Prelude.ℕ, Prelude.List, Prelude.codes, Char.encode_utf8}
use Rattle.latex2mathml_tokens.specs.{declared.names.FunctionName.FunctionName, declared.names.LimitName.LimitName}
use Rattle.latex2mathml_tokens.specs.declared.names.FunctionName.TheVariants as function
use Rattle.latex2mathml_tokens.specs.declared.names.LimitName.TheVariants as limit
use Rattle.latex2mathml_tokens.specs.{declared.names.Paren.Paren, declared.names.Size.Size}
use Rattle.latex2mathml_tokens.specs.declared.names.Paren.TheVariants as paren
use Rattle.latex2mathml_tokens.specs.declared.names.Size.TheVariants as size

abbrev pub paren_text : Paren → List ℕ
paren_text paren.LeftRound = codes "("
paren_text paren.RightRound = codes ")"
paren_text paren.LeftSquare = codes "["
paren_text paren.RightSquare = codes "]"
paren_text paren.Bar = codes "|"
paren_text paren.Assign = codes ":="
paren_text paren.LeftAngle = encode_utf8 0x27E8  -- ⟨
paren_text paren.RightAngle = encode_utf8 0x27E9  -- ⟩
paren_text paren.LeftBrace = codes "{"
paren_text paren.RightBrace = codes "}"
paren_text paren.DoubleBar = encode_utf8 0x2225  -- ∥
paren_text paren.LeftCeiling = encode_utf8 0x2308  -- ⌈
paren_text paren.RightCeiling = encode_utf8 0x2309  -- ⌉
paren_text paren.LeftFloor = encode_utf8 0x230A  -- ⌊
paren_text paren.RightFloor = encode_utf8 0x230B  -- ⌋
paren_text paren.LeftTortoise = encode_utf8 0x2997  -- ⦗
paren_text paren.RightTortoise = encode_utf8 0x2998  -- ⦘
paren_text paren.LeftDouble = encode_utf8 0x27E6  -- ⟦
paren_text paren.RightDouble = encode_utf8 0x27E7  -- ⟧

abbrev pub limit_text : LimitName → List ℕ
limit_text limit.Lim = codes "lim"
limit_text limit.LimInf = codes "lim inf"
limit_text limit.LimSup = codes "lim sup"
limit_text limit.Min = codes "min"
limit_text limit.Max = codes "max"
limit_text limit.Inf = codes "inf"
limit_text limit.Sup = codes "sup"

abbrev pub size_text : Size → List ℕ
size_text size.First = codes "1.2em"
size_text size.Second = codes "1.623em"
size_text size.Third = codes "2.047em"
size_text size.Fourth = codes "2.470em"

abbrev pub function_text : FunctionName → List ℕ
function_text function.Arccos = codes "arccos"
function_text function.Arcsin = codes "arcsin"
function_text function.Arctan = codes "arctan"
function_text function.Arg = codes "arg"
function_text function.Cos = codes "cos"
function_text function.Cosh = codes "cosh"
function_text function.Cot = codes "cot"
function_text function.Coth = codes "coth"
function_text function.Csc = codes "csc"
function_text function.Det = codes "det"
function_text function.Dim = codes "dim"
function_text function.Erf = codes "erf"
function_text function.Erfc = codes "erfc"
function_text function.Exp = codes "exp"
function_text function.Ker = codes "ker"
function_text function.Ln = codes "ln"
function_text function.Log = codes "log"
function_text function.Sec = codes "sec"
function_text function.Sin = codes "sin"
function_text function.Sinh = codes "sinh"
function_text function.Tan = codes "tan"
function_text function.Tanh = codes "tanh"
function_text function.WeierstrassP = encode_utf8 0x2118  -- ℘
