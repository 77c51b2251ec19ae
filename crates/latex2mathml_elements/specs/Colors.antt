-- Colors.
use Rattle.std.specs.Prelude.{ℕ, ◌+◌, ◌-◌, ◌/◌, ◌%◌, nat_lt, List, [], ◌∷◌, ◌++◌, Option, Some, None, codes, if◌then◌else◌}
use Rattle.std.specs.Str.{byte}

-- how much of each there is, from 0 to 255
pub record Color : Type 0 where
  pub red : ℕ
  pub green : ℕ
  pub blue : ℕ

-- the hexadecimal digit of a number below 16
abbrev pub hexadecimal : ℕ → ℕ
hexadecimal d = if nat_lt d 10 then byte "0" + d else byte "a" + (d - 10)

-- a byte in hexadecimal digits
abbrev pub two_digits : ℕ → List ℕ
two_digits n = hexadecimal (n / 16 % 16) ∷ hexadecimal (n % 16) ∷ []

-- a color as style sheets write it
abbrev pub color_code : Color → List ℕ
color_code c = codes "#" ++ (two_digits c.red ++ (two_digits c.green ++ two_digits c.blue))

-- the attribute of this name, if there is a color
abbrev pub color_text : List ℕ → Option Color → List ℕ
color_text name None = []
color_text name (Some c) = codes " " ++ (name ++ (codes "=\"" ++ (color_code c ++ codes "\"")))
