-- The line that is written for a call, and which calls are legal when.
use Rattle.std.specs.Prelude.{◌≡◌, ℕ, List, Option}
use Rattle.std.specs.List.{Contains}
use Rattle.forms.specs.declared.calls.Kind.{Kind}
use Rattle.forms.specs.declared.calls.Call.{Call}
use Rattle.forms.specs.Patterns.{pieces, Fits, fill}
use Rattle.forms.specs.Table.{pattern_of, forms_of, form_of, values_of}

-- the line of a call
abbrev pub written : Call → List ℕ
written c = fill (pieces (pattern_of (form_of c))) (values_of c)

-- the call's form is legal then, and its numbers are such as the form takes
pub record Allowed (opened : Option Kind) (c : Call) : Type 0 where
  pub legal : Contains (forms_of opened) (form_of c)
  pub fits : Fits (pieces (pattern_of (form_of c))) (values_of c)

-- the line is that of a call which is legal then
abbrev pub Reads : Option Kind → List ℕ → Call → Type 0
Reads opened line c = Allowed opened c × (line ≡ written c)

-- the lines that are legal then
abbrev pub Legal : Option Kind → List ℕ → Type 0
Legal opened line = (c : Call) × Reads opened line c
