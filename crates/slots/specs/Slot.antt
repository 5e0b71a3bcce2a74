-- A glyph slot, and its 24 bytes or 28. Assumes nothing.
use Rattle.std.specs.Prelude.{Bool, ◌||◌, List, [], ◌∷◌, ◌++◌, ℕ, ◌-◌, eqb, ℤ, pos, get_or}
use Rattle.ints.specs.BigEndian.{digits, nat_at}
use Rattle.ints.specs.Signed.{int_at, pattern}

-- the glyph; its ligature id and component; its flags (1 seen, 2 mark, 4 multiplied); how it is attached (1 mark, 2
-- cursive) and how many slots further on its parent is (0: not attached); its advances and its offsets; its cluster,
-- which says what letter it came from
pub record Slot : Type 0 where
  pub glyph : ℕ
  pub ligature_id : ℕ
  pub component : ℕ
  pub flags : ℕ
  pub attach_type : ℕ
  pub chain : ℤ
  pub x_advance : ℤ
  pub y_advance : ℤ
  pub x_offset : ℤ
  pub y_offset : ℤ
  pub cluster : ℕ

-- how many bytes a slot has: 24, and 28 with a cluster
abbrev pub slot_size : ℕ
slot_size = 24

abbrev pub clustered_size : ℕ
clustered_size = 28

-- a slot has no other size
abbrev pub known : ℕ → Bool
known z = eqb z slot_size || eqb z clustered_size

-- where each field starts in a slot's bytes
abbrev pub glyph_at : ℕ
glyph_at = 0

abbrev pub ligature_id_at : ℕ
ligature_id_at = 2

abbrev pub component_at : ℕ
component_at = 3

abbrev pub flags_at : ℕ
flags_at = 4

abbrev pub attach_type_at : ℕ
attach_type_at = 5

abbrev pub chain_at : ℕ
chain_at = 6

abbrev pub x_advance_at : ℕ
x_advance_at = 8

abbrev pub y_advance_at : ℕ
y_advance_at = 12

abbrev pub x_offset_at : ℕ
x_offset_at = 16

abbrev pub y_offset_at : ℕ
y_offset_at = 20

abbrev pub cluster_at : ℕ
cluster_at = 24

-- the slot in 24 bytes or 28, numbers big-endian: 24 bytes have cluster 0
unfoldable pub slot_of : List ℕ → Slot
slot_of p =
    record {
      glyph = nat_at 2 p glyph_at;
      ligature_id = get_or p ligature_id_at 0;
      component = get_or p component_at 0;
      flags = get_or p flags_at 0;
      attach_type = get_or p attach_type_at 0;
      chain = int_at 2 p chain_at;
      x_advance = int_at 4 p x_advance_at;
      y_advance = int_at 4 p y_advance_at;
      x_offset = int_at 4 p x_offset_at;
      y_offset = int_at 4 p y_offset_at;
      cluster = nat_at 4 p cluster_at;
    }

-- the first 24 bytes of a slot: all but its cluster
unfoldable pub plain_bytes : Slot → List ℕ
plain_bytes s =
    digits 2 s.glyph
    ++ (s.ligature_id ∷ s.component ∷ s.flags ∷ s.attach_type ∷ [])
    ++ digits 2 (pattern 2 s.chain)
    ++ digits 4 (pattern 4 s.x_advance)
    ++ digits 4 (pattern 4 s.y_advance)
    ++ digits 4 (pattern 4 s.x_offset)
    ++ digits 4 (pattern 4 s.y_offset)

-- the bytes of a slot of z bytes: the cluster has those that are left, four of 28 and none of 24
abbrev pub bytes_of : ℕ → Slot → List ℕ
bytes_of z s = plain_bytes s ++ digits (z - slot_size) s.cluster

-- a slot of zeros: what is read outside a line
abbrev pub no_slot : Slot
no_slot =
    record {
      glyph = 0;
      ligature_id = 0;
      component = 0;
      flags = 0;
      attach_type = 0;
      chain = pos 0;
      x_advance = pos 0;
      y_advance = pos 0;
      x_offset = pos 0;
      y_offset = pos 0;
      cluster = 0;
    }
