-- The bytes of a character and the digits of a number, which the tables of markup compute.
unfoldable pub use Rattle.std.specs.Char.{encode_utf8}
unfoldable pub use Rattle.std.specs.Fmt.{digits}
