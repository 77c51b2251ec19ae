mod Calls
mod TexTexts
mod Texts
