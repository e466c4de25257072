-- A `&` to the bytes is made where one to an array of them is. Assumes `Logic`.
use Rattle.std.proofs.Common.{length, w8}
use denote.Array.{Array, Array-row_laws}
use denote.Builtin.{u8}
use denote.Plain.{uint_row_laws}
use denote.Shares.{Shares-Array}
use denote.Struct.Lending.{of_Lends, lent_at_shr_laws, Lends-lies}
use borrow.Table.Copies.{c_rf, Shares-copy}
use borrow.Table.Referent.{f_int}
use Rattle.gt_space.specs.contracts.memory.Bytes as C
use Rattle.gt_space.proofs.memory.Bytes.TheLaw.Statement.{statement}

pub shares : statement
shares =
    of_Lends C.struct C.the_codes C.the_heap C.the_lent
    (λ d p. lent_at_shr_laws (Array u8 (length d.items)) (Array-row_laws u8 (uint_row_laws w8) (length d.items)) d.at d.items)
    tt
    (λ M 𝓤 𝓛 d p. Lends-lies 𝓛 (Array u8 (length d.items)) (C.the_row).lives d.at d.items
    (Shares-Array 𝓛 u8 tt (length d.items) (C.the_row).lives (Shares-copy 𝓛 (c_rf (f_int w8)) (C.the_row).lives) d.items))
