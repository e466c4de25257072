use Rattle.std.proofs.Common.{◌≡◌, ◌∙◌, ◌<◌, ap, sym, subst, arith, List, [], ◌∷◌, ◌++◌, length, None, false}
use Rattle.std.specs.Prelude.{flat_map}
use Rattle.gt_walk.specs.declared.rows.Count.TheVariants as count
use Rattle.gt_walk.specs.declared.rows.WalkRow.{WalkRow}
use Rattle.gt_walk.specs.declared.rows.WalkRow.TheVariants as row
use Rattle.gt_walk.specs.Nested.{parts_in}
use Rattle.gt_tree.specs.Blocks.{Chars}
use Rattle.gt_edges.specs.Numbers.{walk_of}
use Rattle.gt_tables.specs.Building.{first_of, AreRows, Shallow, ServesPointers}
use Rattle.gt_tables.specs.Counting.{named_by}
use Rattle.gt_tables.proofs.Growing.{append-assoc, rows-note}
use Rattle.gt_tables.proofs.NamedParts.{note-none, pointing-none, named-bare}
use Rattle.gt_tables.proofs.PartCounts.{stays-same}
use Rattle.gt_tables.proofs.Wholes.{list-add, rows-pointing}
use Rattle.gt_tables.proofs.ServingBlocks.{walks-front, points-front}
use Rattle.gt_tables.proofs.blocks.block_walks.Goals as goal

pub returns-clause-walks : goal.returns-clause-walks
returns-clause-walks c =
    let first = first_of c.args.source.now in
    let walks = c.standing_walks.new.parts.walks.items in
    let lt : c.bare_walk.result < first = omega (arith, c.bare_walk.ensures, c.requires.source.count) in
    list-add first walks c.push.new.self.items c.push-2.new.self.items c.of-2.result c.in_ok-push-2.ensures.items
    (list-add first walks c.add_pointer_walks.new.walks.items c.push.new.self.items c.of.result c.in_ok-push.ensures.items (c.in_ok-add_pointer_walks.ensures.walks walks c.in_ok-walks.ensures.walks)
    (subst (AreRows first walks Shallow) (sym (c.of.ensures.items ∙ c.in_ok-strings.ensures)) (rows-pointing first walks Shallow 8 c.bare_walk.result None 0 false lt)))
    (subst (AreRows first walks Shallow) (sym (c.of-2.ensures.items ∙ c.in_ok-bare.ensures)) (rows-note first walks Shallow 1 None))

pub returns-clause-ends : goal.returns-clause-ends
returns-clause-ends c =
    let front = c.add_pointer_walks.new.walks.items in
    let program = c.args.source.now.program.now in
    let bare : c.bare_walk.result ≡ walk_of program Chars = omega (arith, c.bare_walk.ensures, c.requires.source.count) in
    let strings : c.of.result ≡ row.Note 8 None ∷ row.Ptr 0 (walk_of program Chars) (count.Fixed 0) false ∷ [] =
    c.of.ensures.items ∙ c.in_ok-strings.ensures ∙ ap (λ w. row.Note 8 None ∷ row.Ptr 0 w (count.Fixed 0) false ∷ []) bare in
    let none : c.of-2.result ≡ row.Note 1 None ∷ [] = c.of-2.ensures.items ∙ c.in_ok-bare.ensures in
    record {
      front = front;
      long = omega (arith, c.in_ok-add_pointer_walks.ensures.long, c.in_ok-walks.ensures.long, c.requires.source.count);
      is =
          c.in_ok-push-2.ensures.items ∙ ap (λ (l : List (List WalkRow)). l ++ c.of-2.result ∷ []) c.in_ok-push.ensures.items
          ∙ ap (λ (s : List WalkRow). (front ++ s ∷ []) ++ c.of-2.result ∷ []) strings
          ∙ ap (λ (b : List WalkRow). (front ++ (row.Note 8 None ∷ row.Ptr 0 (walk_of program Chars) (count.Fixed 0) false ∷ []) ∷ []) ++ b ∷ []) none;
    }

-- what stands before the last two walks stands in all
all-walks : {X : Type 0} (xs ys zs : List X) (x y : X) → ys ≡ xs ++ x ∷ [] → zs ≡ ys ++ y ∷ [] → zs ≡ xs ++ (x ∷ y ∷ [])
all-walks xs ys zs x y first second = second ∙ ap (λ l. l ++ y ∷ []) first ∙ append-assoc xs (x ∷ []) (y ∷ [])

pub returns-clause-serves : goal.returns-clause-serves
returns-clause-serves c =
    let source = c.args.source.now in
    let parts = c.standing_walks.new.parts.walks.items in
    let kept = c.in_ok-add_pointer_walks.ensures.kept in
    let pointers = c.add_pointer_walks.new.walks.items in
    let long : length c.in_ok-walks.walks.items ≡ length source.program.now.structures = c.in_ok-walks.ensures.long ∙ c.requires.source.count in
    let more = c.of.result ∷ c.of-2.result ∷ [] in
    let is = all-walks pointers c.push.new.self.items c.push-2.new.self.items c.of.result c.of-2.result c.in_ok-push.ensures.items c.in_ok-push-2.ensures.items in
    walks-front source parts c.in_ok-walks.walks.items (kept.0 ++ more) c.push-2.new.self.items (is ∙ ap (λ l. l ++ more) kept.1 ∙ append-assoc c.in_ok-walks.walks.items kept.0 more) long c.in_ok-walks.ensures.serves

pub returns-clause-pointers : goal.returns-clause-pointers
returns-clause-pointers c =
    let program = c.args.source.now.program.now in
    let pointers = c.add_pointer_walks.new.walks.items in
    let more = c.of.result ∷ c.of-2.result ∷ [] in
    let is = all-walks pointers c.push.new.self.items c.push-2.new.self.items c.of.result c.of-2.result c.in_ok-push.ensures.items c.in_ok-push-2.ensures.items in
    let long : length c.in_ok-walks.walks.items ≡ length program.structures = c.in_ok-walks.ensures.long ∙ c.requires.source.count in
    points-front program (length program.structures) pointers more c.push-2.new.self.items is (omega (arith, long, c.in_ok-add_pointer_walks.ensures.long, c.requires.source.count))
    (subst (λ n. ServesPointers program n pointers) long c.in_ok-add_pointer_walks.ensures.pointers)

-- the walks of pointers and of strings name no walk of a part
pub returns-clause-counted : goal.returns-clause-counted
returns-clause-counted c =
    let strings = ap (λ l. flat_map parts_in l) (c.of.ensures.items ∙ c.in_ok-strings.ensures) ∙ pointing-none 8 None 0 c.bare_walk.result (count.Fixed 0) false in
    let bare = ap (λ l. flat_map parts_in l) (c.of-2.ensures.items ∙ c.in_ok-bare.ensures) ∙ note-none 1 None in
    let is =
    named-bare c.push.new.self.items c.push-2.new.self.items c.of-2.result c.in_ok-push-2.ensures.items bare
    ∙ named-bare c.add_pointer_walks.new.walks.items c.push.new.self.items c.of.result c.in_ok-push.ensures.items strings ∙ c.in_ok-add_pointer_walks.ensures.bare in
    stays-same c.args.source.now (named_by c.in_ok-walks.walks.items) (named_by c.push-2.new.self.items) c.args.parts.now c.standing_walks.new.parts is c.in_ok-walks.ensures.counted
