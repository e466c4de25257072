-- The static record that is made is what the write makes, where it fits; and where a write makes one, it is the one that is made.
use Rattle.std.proofs.Common.{◌≡◌, ℕ, ◌≤◌, true, cond, List, length, refl, ap, sym, subst, ◌∙◌, Some, None, Result, Ok, Err}
use Rattle.std.specs.Prelude.{All, Contains, IfOk, ◌==◌, option_map}
use Rattle.std.proofs.lemmas.Bool.{eqb-true, eq-eqb}
use Rattle.std.proofs.lemmas.List.{length-map}
use Rattle.std.proofs.lemmas.List.Elements.{All-map, All-weaker, All-contains_itself}
use Rattle.gt_types.specs.declared.program.Root.{Root}
use Rattle.gt_types.specs.declared.program.Program.{Program}
use Rattle.gt_types.specs.Settled.{Settled}
use Rattle.gt_tree.specs.Trees.{Tree, Num, Null, To, Raw, Rec, Alt, Row, Trees, End, count, is_word, with_part}
use Rattle.gt_tree.specs.Blocks.{Blocks}
use Rattle.gt_tree.specs.Scopes.{outside}
use Rattle.gt_tree.specs.Fits.{root_types}
use Rattle.gt_tree.specs.Reshapes.{AllReshape, AssignsStatics, LeadsToLeaf}
use Rattle.gt_tree.proofs.WriteScopes.{RootsSame}
use Rattle.gt_tree.proofs.WriteReads.{roots-kept}
use Rattle.gt_value.specs.Values.{tree_of}
use Rattle.gt_value.specs.declared.values.Value.{Value}
use Rattle.gt_value.specs.declared.values.ValueFail.{ValueFail}
use Rattle.gt_value.specs.declared.values.ValueFail.TheVariants.{Shape}
use Rattle.gt_assign.specs.Pasts.{Whole, past_outside}
use Rattle.gt_assign.specs.Turning.{Gives, made, fields_made, record_made}
use Rattle.gt_assign.specs.Results.{RecordFits, IsRecordWhereFit, NoneElseIsRecord, NoneIsRecord}
use Rattle.gt_assign.proofs.Comes.{checked, rec-of, each-field}
use Rattle.gt_assign.proofs.ComesUnions.{made-sound}
use Rattle.gt_unions.proofs.CommonFound.{common-is}
use Rattle.gt_assign.proofs.Standing.{Stands}
use Rattle.gt_assign.proofs.Whole.{Deep, fields-old, fields-long, makes_fields}
use Rattle.gt_assign.proofs.Nesting.{deep-root}

module _ (program : Program) (settled : Settled program) where
  root-stands : (written news : Trees) → RootsSame written news → All (Stands program End (past_outside written) (outside news)) (root_types program)
  root-stands written news same =
      All-map (Stands program End (past_outside written) (outside news)) (λ (r : Root). r.ty) program.roots
      (All-weaker (Contains program.roots) (λ (r : Root). Stands program End (past_outside written) (outside news) r.ty) (λ r c. Stands.at_root r c same) program.roots (All-contains_itself program.roots))

  root-deep : (depth : ℕ) → 203 ≤ depth → All (Deep program depth) (root_types program)
  root-deep depth enough =
      All-map (Deep program depth) (λ (r : Root). r.ty) program.roots
      (All-weaker (Contains program.roots) (λ (r : Root). Deep program depth r.ty) (λ r c. deep-root program settled r c depth enough) program.roots (All-contains_itself program.roots))

  -- ---- what is made

  record Made (tree new : Tree) : Type 0 where
    written : Trees
    news : Trees
    is : tree ≡ Rec written
    new_is : new ≡ Rec news
    reshapes : AllReshape program (root_types program) written news

  made-of : (depth : ℕ) (tree new : Tree) → record_made program depth tree ≡ Some new → Made tree new
  made-of depth (Rec written) new e =
      let sound = made-sound program settled (common-is program settled) 0 depth in
      let c = checked program (made program 0 depth) (past_outside written) sound (count written == length program.roots) (option_map Rec (fields_made (made program 0 depth) (past_outside written) (Whole (Rec written)) 0 (root_types program))) new e in
      let found = rec-of program (made program 0 depth) (past_outside written) sound (fields_made (made program 0 depth) (past_outside written) (Whole (Rec written)) 0 (root_types program)) new c.1 in
      let many : count written ≡ length (root_types program) = eqb-true (count written) (length program.roots) c.0 ∙ sym (length-map program.roots (λ (r : Root). r.ty)) in
      record {
        written = written;
        news = found.0;
        is = refl;
        new_is = sym found.2;
        reshapes = each-field program (made program 0 depth) (past_outside written) sound written (root_types program) 0 found.0 many found.1;
      }
  made-of depth (Num n) new e = absurd (cc)
  made-of depth Null new e = absurd (cc)
  made-of depth (To id) new e = absurd (cc)
  made-of depth (Raw bytes) new e = absurd (cc)
  made-of depth (Alt member tree) new e = absurd (cc)
  made-of depth (Row trees) new e = absurd (cc)

  -- what a write makes is what is made of the record with the new leaf
  is-made : (blocks : Blocks) (depth : ℕ) (olds news : Trees) (path : List ℕ) (leaf : Tree) → 203 ≤ depth → AssignsStatics program blocks olds path leaf news
      → record_made program depth (with_part (Rec olds) path leaf) ≡ Some (Rec news)
  is-made blocks depth olds news path leaf enough a =
      ap (record_made program depth) a.with_leaf
      ∙ ap (λ b. cond b (option_map Rec (fields_made (made program 0 depth) (past_outside a.written) (Whole (Rec a.written)) 0 (root_types program))) None)
      (eq-eqb (count a.written) (length program.roots) (fields-long program a.reshapes ∙ length-map program.roots (λ (r : Root). r.ty)))
      ∙ ap (option_map Rec)
      (makes_fields program settled blocks 0 End a.fits (past_outside a.written) (Whole (Rec a.written)) depth 0 (root-stands a.written news (roots-kept a.reshapes)) (root-deep depth enough)
      (fields-old program a.reshapes a.written 0 refl))

  -- ---- by what a call gives

  module _ (old : Tree) (path : List ℕ) (leaf : Tree) where
    found : (blocks : Blocks) (depth : ℕ) (olds news : Trees) → 203 ≤ depth → old ≡ Rec olds → AssignsStatics program blocks olds path leaf news → record_made program depth (with_part old path leaf) ≡ Some (Rec news)
    found blocks depth olds news enough is a = ap (λ t. record_made program depth (with_part t path leaf)) is ∙ is-made blocks depth olds news path leaf enough a

    pub given-fits : (depth : ℕ) (result : Result Value ValueFail) (olds : Trees) → old ≡ Rec olds → LeadsToLeaf old path → is_word leaf ≡ true → Gives result (record_made program depth (with_part old path leaf))
        → IfOk result (λ v. IsRecordWhereFit program old path leaf (tree_of v))
    given-fits depth (Ok v) olds is there leaf_so e = λ blocks fit.
        let m = made-of depth (with_part old path leaf) (tree_of v) e in
        record {
          olds = olds;
          news = m.news;
          old_is = is;
          new_is = m.new_is;
          assigns = record {
            there = subst (λ t. LeadsToLeaf t path) is there;
            is_leaf = leaf_so;
            written = m.written;
            with_leaf = ap (λ t. with_part t path leaf) (sym is) ∙ m.is;
            fits = subst (RecordFits program blocks) m.new_is fit;
            reshapes = m.reshapes;
          };
        }
    given-fits depth (Err fail) olds is there leaf_so e = tt

    pub given-else : (depth : ℕ) (result : Result Value ValueFail) → 203 ≤ depth → Gives result (record_made program depth (with_part old path leaf)) → IfOk result (λ v. NoneElseIsRecord program old path leaf (tree_of v))
    given-else depth (Ok v) enough e = λ blocks off olds news is a.
        let both : Some (Rec news) ≡ Some (tree_of v) = sym (found blocks depth olds news enough is a) ∙ e in
        let same : Rec news ≡ tree_of v = cc in
        off (subst (RecordFits program blocks) same a.fits)
    given-else depth (Err fail) enough e = tt

    none-made : (depth : ℕ) → 203 ≤ depth → record_made program depth (with_part old path leaf) ≡ None → NoneIsRecord program old path leaf
    none-made depth enough e = λ blocks olds news is a. let clash : None ≡ Some (Rec news) = sym e ∙ found blocks depth olds news enough is a in cc

    pub given-none : (depth : ℕ) (result : Result Value ValueFail) → 203 ≤ depth → Gives result (record_made program depth (with_part old path leaf)) → result ≡ Err Shape → NoneIsRecord program old path leaf
    given-none depth result enough given is = none-made depth enough (subst (λ r. Gives r (record_made program depth (with_part old path leaf))) is given)
