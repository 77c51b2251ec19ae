mod Bounds
mod BrokenLines
mod CachedRenderings
mod CheckedFormulas
mod CountedTokens
mod SecondRuns
