-- A structure, made in parts.
use Rattle.std.proofs.Common.{◌≡◌, ℕ, true, false, cond, refl, ap, sym, ◌∙◌, Option, Some, None}
use Rattle.std.specs.Prelude.{slice_get, option_map}
use Rattle.gt_types.specs.declared.expressions.Expr.{Expr}
use Rattle.gt_types.specs.declared.types.TypeId.{TypeId}
use Rattle.gt_types.specs.declared.program.Field.{Field}
use Rattle.gt_types.specs.declared.program.Structure.{Structure}
use Rattle.gt_types.specs.declared.program.Program.{Program}
use Rattle.gt_tree.specs.Trees.{Tree, Alt}
use Rattle.gt_tree.specs.Fits.{active_member}
use Rattle.gt_unions.specs.Commons.{common_of}
use Rattle.gt_fit.proofs.Endings.{equals}
use Rattle.gt_assign.specs.Pasts.{Was, Whole, Past, past_inside, desc_was}
use Rattle.gt_assign.specs.Turning.{Maker, stays, or_made, node_made, structure_made, member_made, member_was, begun_by, alt_made, struct_made}

module _ (program : Program) (make : Maker) (past inner : Past) (node : TypeId) (desc : Option Expr) (was : Was) (s : Structure)
    (moves : stays node was ≡ None) (has : slice_get program.structures node.0 ≡ Some s) where
  whole : inner ≡ past_inside past node was → node_made program make past node desc was ≡ structure_made program make inner desc was (Some s)
  whole e =
      ap (λ o. or_made o (structure_made program make (past_inside past node was) desc was (slice_get program.structures node.0))) moves
      ∙ ap (structure_made program make (past_inside past node was) desc was) has
      ∙ ap (λ p. structure_made program make p desc was (Some s)) (sym e)

  pub node-union : s.is_union ≡ true → inner ≡ past_inside past node was
      → member_made program make inner s was (active_member (desc_was program inner desc) s.fields) ≡ node_made program make past node desc was
  node-union union e =
      sym
      (whole e ∙ ap (λ b. cond b (member_made program make inner s was (active_member (desc_was program inner desc) s.fields)) (struct_made make inner s.fields was)) union)

  pub node-struct : s.is_union ≡ false → inner ≡ past_inside past node was → struct_made make inner s.fields was ≡ node_made program make past node desc was
  node-struct struct e =
      sym
      (whole e ∙ ap (λ b. cond b (member_made program make inner s was (active_member (desc_was program inner desc) s.fields)) (struct_made make inner s.fields was)) struct)

-- ---- the active member of a union, where the same is active as before

pub member-same : (program : Program) (make : Maker) (past : Past) (s : Structure) (place : ℕ) (f : Field) (tree : Tree) → slice_get s.fields place ≡ Some f
    → member_made program make past s (Whole (Alt (Some place) tree)) (Some place) ≡ option_map (Alt (Some place)) (make past f.ty (Whole tree))
member-same program make past s place f tree has =
    ap (λ (o : Option Field). alt_made make past place o (member_was program s place (Whole (Alt (Some place) tree)))) has
    ∙ ap (λ b. alt_made make past place (Some f) (cond b (Some (Whole tree)) (begun_by program s (Some place) tree (common_of program s)))) ((equals place place).1 refl)
