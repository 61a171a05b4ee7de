-- Writing and reading undo each other, and a fault is where no legal line goes on.
use Rattle.std.specs.Prelude.{◌≡◌, ℕ, List, Ok, Err, Option}
use Rattle.forms.specs.declared.calls.Kind.{Kind}
use Rattle.forms.specs.declared.calls.Call.{Call}
use Rattle.forms.specs.Calls.{written, Allowed, Legal}
use Rattle.forms.specs.Faults.{Fault}
use Rattle.forms.specs.Reading.{read_of}

-- what is written for a call reads back as that call
abbrev pub ReadsBack : Option Kind → Type 0
ReadsBack opened = (c : Call) → Allowed opened c → read_of opened (written c) ≡ Ok c

-- a line that reads as a call is the line written for it, and so the only one
abbrev pub OneLine : Option Kind → Type 0
OneLine opened = (line : List ℕ) (c : Call) → read_of opened line ≡ Ok c → Allowed opened c × (line ≡ written c)

-- two calls that are legal then are never written as one line
abbrev pub OneCall : Option Kind → Type 0
OneCall opened = (c d : Call) → Allowed opened c → Allowed opened d → written c ≡ written d → c ≡ d

-- any other line fails at the end of its longest beginning that a legal line shares
abbrev pub FaultPlace : Option Kind → Type 0
FaultPlace opened = (line : List ℕ) (n : ℕ) → read_of opened line ≡ Err n → Fault (Legal opened) line n
