-- The function that encodes characters, under a name that the code can write.
pub use Rattle.std.specs.Char.{encode_utf8}
