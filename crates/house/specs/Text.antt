-- The text of an answer.
--   answer_text  of the runner's answer
--   said_text    of the reference ledger's answer, in a house's kind of amount
use Rattle.std.specs.Prelude.{ℕ, List, ◌++◌, codes, decimal}
use Rattle.shelf.specs.declared.records.Bin.{Bin}
use Rattle.shelf.specs.Contents.{Figures as Bounded}
use Rattle.model.specs.Ledger.{Answer as Said}
use Rattle.model.specs.Ledger.{laid, begun, closed, dropped, kept, undone, granted, failed, waits, seen, shown, refused}
use Rattle.forms.specs.declared.calls.Kind.{Kind}
use Rattle.forms.specs.declared.calls.Figures.{Figures}
use Rattle.forms.specs.Text.{figures_text}
use Rattle.house.specs.Kinds.{writes}
use Rattle.house.specs.declared.answer.Answer.{Answer}
use Rattle.house.specs.declared.answer.Answer.TheVariants as answer

-- a word with its number
abbrev pub numbered : List ℕ → ℕ → List ℕ
numbered word n = word ++ (decimal n ++ codes ")")

-- a bin as it is reported
abbrev pub bin_text : ℕ → Bin Figures → List ℕ
bin_text bin x =
    codes "(bin "
    ++ (decimal bin
    ++ (codes " (min "
    ++ (figures_text x.min
    ++ (codes ") (max "
    ++ (figures_text x.max
    ++ (codes ") (inf " ++ (figures_text x.inf ++ (codes ") (val " ++ (figures_text x.val ++ (codes ") (sup " ++ (figures_text x.sup ++ codes "))")))))))))))

abbrev pub answer_text : Answer → List ℕ
answer_text (answer.Opened house) = numbered (codes "(opened ") house
answer_text (answer.Laid bin) = numbered (codes "(laid ") bin
answer_text (answer.Bin bin x) = bin_text bin x

-- a bin in the figures of its kind
abbrev pub written_in : Kind → Bounded → Bin Figures
written_in k x = record { min = writes k x.floor; max = writes k x.ceiling; inf = writes k x.inf; val = writes k x.val; sup = writes k x.sup }

-- what the reference ledger says; a report is one of bin b
abbrev pub said_text : Kind → ℕ → Said → List ℕ
said_text k b (laid n) = numbered (codes "(laid ") n
said_text k b (begun n) = numbered (codes "(begun ") n
said_text k b (closed n) = numbered (codes "(closed ") n
said_text k b (dropped n) = numbered (codes "(dropped ") n
said_text k b (kept n) = numbered (codes "(kept ") n
said_text k b (undone n) = numbered (codes "(undone ") n
said_text k b granted = codes "(granted)"
said_text k b failed = codes "(failed)"
said_text k b waits = codes "(waits)"
said_text k b (seen v) = codes "(seen " ++ (figures_text (writes k v) ++ codes ")")
said_text k b (shown x) = bin_text b (written_in k x)
said_text k b (refused n) = numbered (codes "(refused ") n
