-- How many numbers a queue has places for.
use Rattle.std.specs.Prelude.{ℕ}

abbrev pub queue_capacity : ℕ
queue_capacity = 64
