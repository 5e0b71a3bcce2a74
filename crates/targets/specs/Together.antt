-- Which earlier mark a mark may be stacked on (`MarkMarkPos1`). Assumes nothing.
use Rattle.std.specs.Prelude.{Bool, ◌&&◌, ◌||◌, ℕ, eqb, ltb, if◌then◌else◌}
use Rattle.slots.specs.Slot.{Slot}
use Rattle.slots.specs.Fields.{flag_of}
use Rattle.slots.specs.declared.fields.Flag.TheVariants.{Mark}

-- a mark that is a ligature itself, by its id and component: it has an id, and stands on no component
abbrev pub own_ligature : ℕ → ℕ → Bool
own_ligature id component = ltb 0 id && eqb component 0

-- Do two marks belong together? With equal ids: if the id is 0 (marks of one base), or the components are equal (of one
-- component of a ligature). With different ids: if one of the two is a ligature itself.
abbrev pub together : Slot → Slot → Bool
together mark earlier =
    if eqb mark.ligature_id earlier.ligature_id
    then eqb mark.ligature_id 0 || eqb mark.component earlier.component
    else own_ligature mark.ligature_id mark.component || own_ligature earlier.ligature_id earlier.component

-- may a mark be stacked on an earlier slot? If that is a mark, and the two belong together
unfoldable pub stacks : Slot → Slot → Bool
stacks mark earlier = flag_of Mark earlier && together mark earlier
