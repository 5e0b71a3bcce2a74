-- What a slot hangs on: its parent, as many slots further on as its chain says. Assumes nothing.
use Rattle.std.specs.Prelude.{Bool, not, List, ℕ, zero, suc, eqb, ltb, ℤ, pos, negsuc, nat_abs, ◌+ℤ◌, length, if◌then◌else◌}
use Rattle.ints.specs.Limits.{half16}
use Rattle.slots.specs.Slot.{Slot}
use Rattle.slots.specs.Line.{slot, update}
use Rattle.slots.specs.Fields.{with_chain}
use Rattle.slots.specs.declared.parent.Parent.{Parent}
use Rattle.slots.specs.declared.parent.Parent.TheVariants.{None, Outside, InLine}

-- how a slot hangs on its parent: the attach types of a mark and of a cursive glyph
abbrev pub mark_type : ℕ
mark_type = 1

abbrev pub cursive_type : ℕ
cursive_type = 2

-- a chain has 16 bits: it reaches so many slots back, and one fewer ahead
abbrev pub chain_limit : ℕ
chain_limit = half16

-- the slot at place z of a line of n slots
abbrev pub placed : ℕ → ℤ → Parent
placed n (pos j) = if ltb j n then InLine j else Outside
placed n (negsuc j) = Outside

-- what slot i of a line of n slots hangs on, by its chain: nothing where the chain is 0
abbrev pub parent_by : ℕ → ℕ → ℤ → Parent
parent_by n i (pos zero) = None
parent_by n i (pos (suc c)) = placed n (pos i +ℤ pos (suc c))
parent_by n i (negsuc c) = placed n (pos i +ℤ negsuc c)

-- what slot i hangs on: nothing, something outside the line, or the slot at a place of the line
unfoldable pub parent : List Slot → ℕ → Parent
parent ss i = parent_by (length ss) i (slot ss i).chain

-- is slot i attached?
abbrev pub is_attached : List Slot → ℕ → Bool
is_attached ss i = not (eqb (nat_abs (slot ss i).chain) 0)

-- the line with slot i's chain 0; its type stays
unfoldable pub cleared : List Slot → ℕ → List Slot
cleared ss i = update i (with_chain (pos 0)) ss

-- one thing for each kind of parent
abbrev pub by_parent : {A : Type 0} → Parent → A → A → (ℕ → A) → A
by_parent None a b f = a
by_parent Outside a b f = b
by_parent (InLine j) a b f = f j
