-- The blocks that pages, directory and bytes show are those of the heap.
use Rattle.std.proofs.Common.{◌≡◌, ℕ, suc, ◌-◌, ◌≤◌, List, [], ◌∷◌, ◌++◌, Option, Some, None, option_map, length, take, refl, ap, sym, subst, ◌∙◌, arith}
use Rattle.std.proofs.Math.Path.{fun_ext}
use Rattle.std.specs.Prelude.{Contains}
use Rattle.gt_types.specs.declared.program.Program.{Program}
use Rattle.gt_types.specs.Settled.{Settled}
use Rattle.gt_layout.specs.declared.planes.Layouts.{Layouts}
use Rattle.gt_layout.specs.Planes.{IsLaidOut}
use Rattle.gt_space.specs.Range.{IsSpace, bytes_at}
use Rattle.gt_tree.specs.Blocks.{Kind, Nodes, Pointers, Strings, Chars, Raw, Block}
use Rattle.gt_tree.specs.FixedLaws.{AreAddresses}
use Rattle.gt_value.specs.Bytes.{itself}
use Rattle.gt_graph.specs.Objects.{Object, object_of, block_of, blocks_of, chars_in}
use Rattle.gt_graph.specs.Good.{Heap}
use Rattle.gt_objects.specs.declared.objects.Known.{Known}
use Rattle.gt_objects.specs.declared.objects.Objects.{Objects}
use Rattle.gt_objects.specs.Knowing.{IsKnown, IsKnownAt}
use Rattle.gt_objects.specs.Holding.{IsHeapOf}
use Rattle.gt_objects.specs.InBytes.{block_as, blocks_in, chars_as, known_in}
use Rattle.gt_objects.proofs.Finding.{has_places, known_is}
use Rattle.gt_objects.proofs.Naming.{name_is, object_is, object_of_block, placed_of}
use Rattle.gt_elements.specs.Naming.{AreNamed, IsEnded}
use Rattle.gt_elements.proofs.Chars.{chars_are, chars_ended, chars_many}
use Rattle.gt_elements.proofs.Found.{addresses}

block_is : (a b : Block) → a.kind ≡ b.kind → a.count ≡ b.count → a.chars ≡ b.chars → a ≡ b
block_is a b kind count chars =
    ap (λ k. let x : Block = record { kind = k; count = a.count; chars = a.chars } in x) kind
    ∙ ap (λ n. let x : Block = record { kind = b.kind; count = n; chars = a.chars } in x) count
    ∙ ap (λ cs. let x : Block = record { kind = b.kind; count = b.count; chars = cs } in x) chars

-- ---- the last character

ended_some : (text : List ℕ) → 1 ≤ length (text ++ 0 ∷ [])
ended_some [] = omega arith
ended_some (x ∷ text) = omega arith

ended_take : (text : List ℕ) → take (length (text ++ 0 ∷ []) - 1) (text ++ 0 ∷ []) ≡ text
ended_take [] = refl
ended_take (x ∷ text) =
    let some = ended_some text in
    let one : length (x ∷ (text ++ 0 ∷ [])) - 1 ≡ suc (length (text ++ 0 ∷ []) - 1) = omega (arith, some) in
    ap (λ k. take k (x ∷ (text ++ 0 ∷ []))) one ∙ ap (λ xs. x ∷ xs) (ended_take text)

pub ended_by : (chars text : List ℕ) → chars ≡ text ++ 0 ∷ [] → chars ≡ take (length chars - 1) chars ++ 0 ∷ []
ended_by chars text e = subst (λ xs. xs ≡ take (length xs - 1) xs ++ 0 ∷ []) (sym e) (sym (ap (λ xs. xs ++ 0 ∷ []) (ended_take text)))

-- ---- blocks

module _ (program : Program) (layouts : Layouts) (settled : Settled program) (laid : IsLaidOut program layouts) (objects : Objects) (heap : Heap) (is : IsHeapOf program layouts objects heap) (space : IsSpace objects.space) where
  module _ (o : Object) (there : Contains heap.graph.objects o) where
    same_chars : (kind : Kind) → o.kind ≡ kind → chars_as kind (bytes_at objects.space o.id o.count) ≡ chars_in kind o.value
    same_chars Chars e =
        let p = placed_of is.good.places o there in
        let here : p.0.block.address ≡ o.id = sym (name_is is.good.places p.0 p.1) ∙ p.2 in
        sym (chars_are program layouts settled laid objects heap is space o there p.0 p.1 p.2 e ∙ ap (λ a. bytes_at objects.space a o.count) here)
    same_chars (Nodes node) e = refl
    same_chars (Pointers node) e = refl
    same_chars Strings e = refl
    same_chars Raw e = refl

  same_block : (id : ℕ) (known : Known) (o : Object) → object_of heap.graph.objects id ≡ Some o → IsKnown o known → block_as objects.space id known ≡ block_of o
  same_block id known o found k =
      let at = object_is heap.graph.objects id o found in
      block_is (block_as objects.space id known) (block_of o) (sym k.kind) (sym k.count)
      (ap (λ q. chars_as q (bytes_at objects.space id known.count)) (sym k.kind)
      ∙ ap (λ n. chars_as o.kind (bytes_at objects.space id n)) (sym k.count)
      ∙ ap (λ a. chars_as o.kind (bytes_at objects.space a o.count)) (sym at.1)
      ∙ same_chars o at.0 o.kind refl)

  same_at : (id : ℕ) → blocks_in objects id ≡ blocks_of heap.graph.objects id
  same_at id = by_known (known_in objects id) refl (known_is program layouts objects heap is id)
    where
      by_known : (k : Option Known) → known_in objects id ≡ k → IsKnownAt heap.graph.objects id k → blocks_in objects id ≡ blocks_of heap.graph.objects id
      by_known None e none = ap (option_map (block_as objects.space id)) e ∙ sym (ap (option_map block_of) none)
      by_known (Some known) e (o, found, k) = ap (option_map (block_as objects.space id)) e ∙ ap (λ b. Some b) (same_block id known o found k) ∙ sym (ap (option_map block_of) found)

  pub same_blocks : blocks_in objects ≡ blocks_of heap.graph.objects
  same_blocks = fun_ext same_at

  ended : (address : ℕ) (b : Block) → blocks_of heap.graph.objects address ≡ Some b → IsEnded b
  ended address b e chars =
      let o = object_of_block heap.graph.objects address b e in
      let kind : o.0.kind ≡ Chars = ap (λ x. x.kind) o.4 ∙ chars in
      let p = placed_of is.good.places o.0 o.2 in
      let text = chars_ended program layouts settled laid objects heap is space o.0 o.2 p.0 p.1 p.2 kind in
      let mine : b.chars ≡ chars_in Chars o.0.value = sym (ap (λ x. x.chars) o.4) ∙ ap (λ q. chars_in q o.0.value) kind in (
        sym (ap (λ x. x.count) o.4) ∙ sym (chars_many program layouts settled laid objects heap is space o.0 o.2 p.0 p.1 p.2 kind) ∙ sym (ap length mine),
        ended_by b.chars text.0 (mine ∙ text.1),
      )

  pub are_named : AreNamed objects
  are_named = record {
    places = has_places program layouts objects heap is;
    addresses = subst (λ bs. AreAddresses bs itself) (sym same_blocks) (addresses program layouts settled laid objects heap is space);
    ended = subst (λ bs. (address : ℕ) (b : Block) → bs address ≡ Some b → IsEnded b) (sym same_blocks) ended;
  }
