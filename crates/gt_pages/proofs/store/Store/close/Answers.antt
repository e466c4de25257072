use Rattle.std.proofs.Common.{◌≡◌, ◌∷◌, length, None, ap, sym, subst, refl, inl, inr, ◌∙◌, rules, arith}
use Rattle.std.proofs.lemmas.List.{with_items_is}
use Rattle.gt_bits.specs.Sets.{has}
use Rattle.gt_links.specs.Lists.{Holds, nodes_of, with_nodes}
use Rattle.gt_pages.specs.declared.pages.TheConstants.{CACHED}
use Rattle.gt_pages.specs.Tables.{Leads}
use Rattle.gt_pages.specs.Parts.{entry_at, entry_pages, parts_of}
use Rattle.gt_pages.proofs.WhereLemmas.{entry_read}
use Rattle.gt_pages.proofs.CloseLemmas.{held_in, lists_length}
use Rattle.gt_pages.proofs.store.Store.close.Goals as goal

pub unlink-requires-clause-linked : goal.unlink-requires-clause-linked
unlink-requires-clause-linked c =
    let held = held_in (parts_of c.args.self.now) c.args.page c.requires.kept c.requires.starts c.requires.outside in (held.0, held.2)

pub push_front-requires-clause-list : goal.push_front-requires-clause-list
push_front-requires-clause-list c =
    let held = held_in (parts_of c.args.self.now) c.args.page c.requires.kept c.requires.starts c.requires.outside in
    let same = ap (λ s. length s.lists) (c.unlink.ensures.taken held.0 held.2) in
    let len = lists_length (parts_of c.args.self.now).lists held.0 c.args.page in
    omega (arith, same, len, c.requires.kept.lists.count)

pub push_front-requires-clause-node : goal.push_front-requires-clause-node
push_front-requires-clause-node c =
    let held = held_in (parts_of c.args.self.now) c.args.page c.requires.kept c.requires.starts c.requires.outside in
    let same = ap (λ s. s.nodes) (c.unlink.ensures.taken held.0 held.2) in
    let low = c.requires.kept.starts c.args.page c.requires.starts in
    omega (arith, same, low, c.requires.kept.lists.nodes)

pub returns : goal.returns
returns c =
    let low = c.requires.kept.starts c.args.page c.requires.starts in
    let read : c.index.result.now ≡ entry_at c.args.self.now.entries.items c.args.page =
    entry_read c.args.self.now.entries.items c.args.page c.index.result.now (omega (arith, low, c.requires.kept.entries)) c.index.ensures in
    let free = with_items_is c.args.self.now.free c.insert_range.new.words (search rules) in
    let count : c.page_count-count.result ≡ entry_pages (entry_at c.args.self.now.entries.items c.args.page) = c.page_count-count.ensures ∙ ap entry_pages read in
    record {
      rest = refl;
      start_words = c.remove.ensures.len;
      gone = c.remove.ensures.gone;
      starts = c.remove.ensures.others;
      table = subst (λ n. Leads c.args.self.now.table c.args.page n None c.clear.new.self) count c.clear.ensures;
      free_words = ap (λ w. length w) free ∙ c.insert_range.ensures.len ∙ ap (λ w. length w) c.deref_mut.ensures.value;
      freed = λ j high low. ap (λ w. has w j) free ∙ c.insert_range.ensures.range j high (omega (arith, low, count));
      free = λ j out.
          ap (λ w. has w j) free
          ∙ c.insert_range.ensures.others j (elim out [ inl low ↦ inl low | inr high ↦ inr (omega (arith, high, count)) ])
          ∙ ap (λ w. has w j) c.deref_mut.ensures.value;
      lists = λ i held.
          c.push_front.ensures.front
          ∙ ap (λ s. with_nodes s CACHED (c.args.page ∷ nodes_of s CACHED)) (c.unlink.ensures.taken i held);
      unlisted = λ i j held there. c.unlink.ensures.free j (subst (λ s. Holds s j c.args.page) (sym (c.unlink.ensures.taken i held)) there);
    }
