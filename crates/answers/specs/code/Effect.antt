-- What a core leaves: it is told of slots and not of bytes. Assumes nothing.
use Rattle.std.specs.Prelude.{List, ◌≡◌}
use Rattle.slots.specs.Slot.{Slot}
use Rattle.answers.specs.Outcome.{Call}
use Rattle.answers.specs.Said.{Said, applied, declined, refused, done}

-- the slots afterwards: the new ones where the call was applied or done, else as they were
abbrev pub slots_after : Said → List Slot → List Slot → List Slot
slots_after (applied n hs a) ss new = new
slots_after done ss new = new
slots_after (declined hs) ss new = ss
slots_after (refused n) ss new = ss

-- a core is told of slots and not of bytes: it said `given`, and the slots ss have become ss'
pub record Effect (ss : List Slot) (s : Said) (new : List Slot) (given : Said) (ss' : List Slot) : Type 0 where
  pub answer : given ≡ s
  pub slots_are : ss' ≡ slots_after s ss new

-- a core makes its call on slots: it said `given`, and the slots ss have become ss'
abbrev pub MadeOn : Call → List Slot → Said → List Slot → Type 0
MadeOn c ss given ss' = Effect ss (c.says ss) (c.leaves ss) given ss'
