-- The texts of the program beside the journals'.
use Rattle.std.specs.Prelude.{ℕ, List, ◌++◌, Option, Some, None, decimal, codes}
use Rattle.up_model.specs.declared.entry.Reply.{Reply}
use Rattle.up_fields.specs.Text.{spaced}
use Rattle.up_replies.specs.Text.{reply_words}
use Rattle.up_words.specs.declared.fault.Why.{Why}
use Rattle.up_words.specs.declared.fault.Why.TheVariants as why

abbrev pub why_text : Why → List ℕ
why_text why.Long = codes "long"
why_text why.Limit = codes "limit"
why_text why.Cut = codes "cut"
why_text why.Header = codes "header"
why_text why.Word = codes "word"
why_text why.Name = codes "name"
why_text why.Number = codes "number"
why_text why.Bytes = codes "bytes"
why_text why.Role = codes "role"
why_text why.Left = codes "left"
why_text why.Missing = codes "missing"
why_text why.Order = codes "order"

-- a fault at a line
abbrev pub fault_text : ℕ → List ℕ → List ℕ
fault_text line reason = codes "fault " ++ decimal line ++ codes " " ++ reason ++ codes "\n"

-- what is expected of an entry at fault: a reply, or a proper call
abbrev pub expected_text : Option Reply → List ℕ
expected_text None = codes " improper"
expected_text (Some reply) = codes " expected" ++ spaced (reply_words reply)

-- the first entry at fault, by its journal's name and its place there
abbrev pub illegal_text : List ℕ → ℕ → Option Reply → List ℕ
illegal_text name place expected = codes "illegal " ++ name ++ codes " " ++ decimal place ++ expected_text expected ++ codes "\n"
