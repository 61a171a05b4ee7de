-- The table of refusals: each case with its number and when it strikes, and how it is answered.
use Rattle.std.specs.Prelude.{ℕ, List, ◌++◌, codes, decimal}
use Rattle.refusal.specs.declared.Refusal.{Refusal}
use Rattle.refusal.specs.declared.Refusal.TheVariants.{UnfitShelf, BadFigures, OverLimit, Trading, BinsFull, BatchActive, OldNumber, QueueFull, StrangeToken, NoSuchBin, NothingAsked, AskedAlready, BatchFull, NotItsTurn, UnknownBatch, UnevenTray, Unreadable}

abbrev pub number_of : Refusal → ℕ
-- any call on a ledger that was opened on a shelf out of limits or in use
number_of UnfitShelf = 1
-- lay: the floor above the ceiling, or the start outside them
number_of BadFigures = 2
-- an amount outside -L to L
number_of OverLimit = 3
-- lay once a batch has been begun
number_of Trading = 4
-- lay with every bin place used
number_of BinsFull = 5
-- begin while a batch is active
number_of BatchActive = 6
-- begin at or below the last number
number_of OldNumber = 7
-- begin with 64 closed batches in the queue
number_of QueueFull = 8
-- a token of another house, number or state than the active batch's
number_of StrangeToken = 9
-- no bin has this number
number_of NoSuchBin = 10
-- an ask for zero
number_of NothingAsked = 11
-- an ask in a bin in which the batch holds a grant
number_of AskedAlready = 12
-- an ask of a batch that holds 16 grants
number_of BatchFull = 13
-- keep or undo of a closed batch that is not the oldest
number_of NotItsTurn = 14
-- keep or undo of a batch that is not in the queue
number_of UnknownBatch = 15
-- loose pieces other than 0 to 23
number_of UnevenTray = 16
-- reading: no legal line, with the place; writing: no legal line for the call, or too short a buffer
number_of (Unreadable place) = 17

-- the place of a refusal that has one, and the end of the answer
abbrev pub place_text : Refusal → List ℕ
place_text (Unreadable place) = codes " (at " ++ (decimal place ++ codes "))")
place_text UnfitShelf = codes ")"
place_text BadFigures = codes ")"
place_text OverLimit = codes ")"
place_text Trading = codes ")"
place_text BinsFull = codes ")"
place_text BatchActive = codes ")"
place_text OldNumber = codes ")"
place_text QueueFull = codes ")"
place_text StrangeToken = codes ")"
place_text NoSuchBin = codes ")"
place_text NothingAsked = codes ")"
place_text AskedAlready = codes ")"
place_text BatchFull = codes ")"
place_text NotItsTurn = codes ")"
place_text UnknownBatch = codes ")"
place_text UnevenTray = codes ")"

-- as it is answered
abbrev pub refusal_text : Refusal → List ℕ
refusal_text why = codes "(refused " ++ (decimal (number_of why) ++ place_text why)
