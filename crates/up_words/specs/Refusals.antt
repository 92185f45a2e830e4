-- The words of a pager's codes.
use Rattle.std.specs.Prelude.{ℕ, cond, Option, Some, None, List, codes}
use Rattle.std.specs.Str.{bytes_eq}
use Rattle.up_num.specs.declared.answers.Code.{Code}
use Rattle.up_num.specs.declared.answers.Code.TheVariants.{Io, IoDataIntegrity, BadState, NoSpace, BufferTooSmall}

-- the code that a word spells
abbrev pub code_in : List ℕ → Option Code
code_in word =
    cond (bytes_eq word (codes "io")) (Some Io)
    (cond (bytes_eq word (codes "io-data-integrity")) (Some IoDataIntegrity)
    (cond (bytes_eq word (codes "bad-state")) (Some BadState)
    (cond (bytes_eq word (codes "no-space")) (Some NoSpace)
    (cond (bytes_eq word (codes "buffer-too-small")) (Some BufferTooSmall) None))))
