-- What the parts of a block of raw memory own and lend.
use Rattle.std.specs.Prelude.{ℕ, List, length}
use mir.Syntax.{Ty, ty_int, w8, ty_array}
use base.Fraction.{full_share}
use base.Fml.{Fml, Lft}
use denote.RawPtr.{Ptr, lies_at, room_for}
use denote.Array.{Array}
use denote.Builtin.{u8}
use denote.Struct.Lending.{lent_at}

-- the type that a block of so many bytes is for
abbrev pub block_type : ℕ → Ty
block_type len = ty_array (ty_int w8) len

-- these bytes lie at the pointer
abbrev pub owned_bytes : Ptr → List ℕ → Fml
owned_bytes p xs = lies_at (Array u8 (length xs)) full_share p xs

-- the same, to be read
abbrev pub lent_bytes : Ptr → List ℕ → Lft → Fml
lent_bytes p xs = lent_at (Array u8 (length xs)) p xs

-- memory for so many bytes lies at the pointer, whatever it holds
abbrev pub owned_room : Ptr → ℕ → Fml
owned_room p len = room_for (block_type len) p

-- the right to give a block of so many bytes at the pointer back
abbrev pub owned_token : (Ty → Ptr → Fml) → Ptr → ℕ → Fml
owned_token token p len = token (block_type len) p
