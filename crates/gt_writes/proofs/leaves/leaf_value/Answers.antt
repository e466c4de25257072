use Rattle.std.proofs.Common.{◌∙◌, ap, sym, subst, rules, true, IsTrue}
use Rattle.std.proofs.lemmas.Int.{to_z-of_z}
use mir.Syntax.{w128}
use Rattle.gt_tree.specs.Numbers.{has_room}
use Rattle.gt_tree.specs.Trees.{Num}
use Rattle.gt_value.proofs.TreesOf.{tree-num, tree-null, tree-to, tree-raw}
use Rattle.gt_writes.specs.SpotWrites.{IsTreeOf}
use Rattle.gt_writes.specs.Rewriting.{IsWordOf}
use Rattle.gt_writes.proofs.LeafForms.{number_leaf, word_leaf, null_leaf, to_leaf}
use Rattle.gt_writes.proofs.leaves.leaf_value.Goals as goal

pub word_of-requires : goal.word_of-requires
word_of-requires c = record {
  room = subst (λ n. IsTrue (has_room true 64 n)) (sym (to_z-of_z w128 c.in-Num.n (search rules))) (c.requires.word c.if-is_word.true c.in-Num.n c.in-Num.is);
}

pub returns-in_ok-word_of-in-Num : goal.returns-in_ok-word_of-in-Num
returns-in_ok-word_of-in-Num c = record {
  value = λ objects type word suits.
      subst (IsTreeOf type c.args.leaf) (sym (tree-raw c.in_ok-word_of-in-Num.field-0))
      (word_leaf type c.args.leaf c.in-Num.n c.in-Num.is c.in_ok-word_of-in-Num.field-0 (sym word ∙ c.if-is_word.true)
      (subst (λ n. IsWordOf n c.in_ok-word_of-in-Num.field-0) (to_z-of_z w128 c.in-Num.n (search rules)) c.in_ok-word_of-in-Num.ensures.word));
}

pub returns-else-is_word : goal.returns-else-is_word
returns-else-is_word c = record {
  value = λ objects type word suits.
      subst (IsTreeOf type c.args.leaf) (ap Num (sym (to_z-of_z w128 c.in-Num.n (search rules))) ∙ sym (tree-num _))
      (number_leaf objects type c.args.leaf c.in-Num.n c.in-Num.is (sym word ∙ c.if-is_word.false) suits);
}

pub returns-in-Null : goal.returns-in-Null
returns-in-Null c = record { value = λ objects type word suits. subst (IsTreeOf type c.args.leaf) (sym tree-null) (null_leaf type c.args.leaf c.in-Null.is) }

pub returns-in-To : goal.returns-in-To
returns-in-To c = record { value = λ objects type word suits. subst (IsTreeOf type c.args.leaf) (sym (tree-to c.in-To.address)) (to_leaf type c.args.leaf c.in-To.address c.in-To.is) }
