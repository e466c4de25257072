-- Where fields lie in their structure. Places are counted in bits from its start, and bits from the lowest of each byte.
use Rattle.std.specs.Prelude.{◌≡◌, ◌≤◌, ℕ, ◌+◌, ◌-◌, ◌*◌, ◌/◌, ◌%◌, Bool, true, false, List, [], ◌∷◌}
use Rattle.gt_layout.specs.declared.planes.FieldSpot.{FieldSpot}
use Rattle.gt_layout.specs.declared.storages.Storage.{Storage}
use Rattle.gt_layout.specs.declared.storages.Storage.TheVariants.{Bytes, Bits}

-- Bytes may begin at each multiple of their alignment; bits where the first and the last of them lie in one unit.
abbrev pub MayBegin : Storage → ℕ → Type 0
MayBegin (Bytes e) begin = begin % (8 * e.align) ≡ 0
MayBegin (Bits unit count) begin = begin / (8 * unit) ≡ (begin + count - 1) / (8 * unit)

-- a field begins at the least bit, from a given one on, at which it may
pub record LiesAfter (from : ℕ) (field : Storage) (begin : ℕ) : Type 0 where
  pub after : from ≤ begin
  pub allowed : MayBegin field begin
  pub least : (other : ℕ) → from ≤ other → MayBegin field other → begin ≤ other

-- the bit after the last one of a field
abbrev pub end_of : Storage → ℕ → ℕ
end_of (Bytes e) begin = begin + 8 * e.size
end_of (Bits unit count) begin = begin + count

-- the alignment of a field in bytes, which for bits is that of their unit
abbrev pub align_of : Storage → ℕ
align_of (Bytes e) = e.align
align_of (Bits unit count) = unit

abbrev pub spot : ℕ → ℕ → FieldSpot
spot offset bit = record { offset = offset; bit = bit }

-- how the place of a field is written: the byte; for bits the byte of their aligned unit, and the first bit in it
abbrev pub spot_of : Storage → ℕ → FieldSpot
spot_of (Bytes e) begin = spot (begin / 8) 0
spot_of (Bits unit count) begin = spot (begin / (8 * unit) * unit) (begin % (8 * unit))

-- the first bit of a field, and the bit after its last, from its place as it is written
abbrev pub begin_at : FieldSpot → ℕ
begin_at s = 8 * s.offset + s.bit

abbrev pub end_at : Storage → FieldSpot → ℕ
end_at field s = end_of field (begin_at s)

-- the fields of a struct: each lies after the end of the one before it, and the first after `from`
abbrev pub Follow : ℕ → List Storage → List FieldSpot → Type 0
Follow from [] [] = Unit {0}
Follow from (f ∷ fs) (s ∷ ss) = LiesAfter from f (begin_at s) × (s ≡ spot_of f (begin_at s)) × Follow (end_at f s) fs ss
Follow from _ _ = ⊥

-- the members of a union all begin at 0
abbrev pub Overlap : List Storage → List FieldSpot → Type 0
Overlap [] [] = Unit {0}
Overlap (f ∷ fs) (s ∷ ss) = (s ≡ spot 0 0) × Overlap fs ss
Overlap _ _ = ⊥

-- where the fields lie, of a union where `true` is given, else of a struct
abbrev pub Lie : Bool → List Storage → List FieldSpot → Type 0
Lie true fields spots = Overlap fields spots
Lie false fields spots = Follow 0 fields spots

-- for each field at its place, the bit after its last
abbrev pub ends : List Storage → List FieldSpot → List ℕ
ends (f ∷ fs) (s ∷ ss) = end_at f s ∷ ends fs ss
ends _ _ = []

-- the offset of the last field
abbrev pub last_offset : List FieldSpot → ℕ
last_offset [] = 0
last_offset (s ∷ []) = s.offset
last_offset (s ∷ t ∷ ss) = last_offset (t ∷ ss)
