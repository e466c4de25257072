-- Entries whose blocks change their marks alone.
use Rattle.std.proofs.Common.{◌≡◌, ℕ, ◌*◌, List, length, count_by, sym, ap, ◌∙◌, arith}
use Rattle.gt_entries.specs.Cells.{is_free}
use Rattle.gt_pages.specs.declared.store.Entry.{Entry}
use Rattle.gt_pages.specs.Ledger.{pages_of}
use Rattle.gt_pages.specs.Contents.{places_of}
use Rattle.gt_pages.specs.Parts.{IsInUse, IsKept, Parts, entry_at, entry_pages}

-- the same number of places, and as many of them free
pub record SameShape (old new : Entry) : Type 0 where
  pub sized : new.size ≡ old.size
  pub len : length new.places ≡ length old.places
  pub free : count_by is_free new.places ≡ count_by is_free old.places

pub same_pages : (old new : Entry) → SameShape old new → entry_pages new ≡ entry_pages old
same_pages old new same =
    ap (λ n. pages_of (n * length new.places)) same.sized ∙ ap (λ n. pages_of (old.size * n)) same.len

in_use_same : (p : Parts) (page : ℕ) (old new : Entry) → SameShape old new → IsInUse p page old → IsInUse p page new
in_use_same p page old new same is =
    let pages = same_pages old new same in
    record {
      listed = rw same.sized is.listed;
      some = omega (arith, is.some, same.len);
      in_space = omega (arith, is.in_space, pages);
      table = λ q high low. is.table q high (omega (arith, low, pages));
      inside = λ of. let in' = is.inside of in omega (arith, in', pages);
      before = λ low some. let be = is.before low some in omega (arith, be, pages);
      count = λ out. same.len ∙ (is.count out ∙ ap (λ n. places_of n) (sym same.sized));
      used = λ out. let u = is.used out in omega (arith, u, same.len, same.free);
    }

-- the parts fit one another still where the entries have the same shapes
pub kept_same : (p : Parts) (entries : List Entry) → length entries ≡ length p.entries
    → ((page : ℕ) → SameShape (entry_at p.entries page) (entry_at entries page)) → IsKept p → IsKept (record p { entries = entries })
kept_same p entries len same kept = record {
  at_least = kept.at_least;
  at_most = kept.at_most;
  entries = len ∙ kept.entries;
  start_words = kept.start_words;
  free_words = kept.free_words;
  table = kept.table;
  image = kept.image;
  starts = kept.starts;
  in_use = λ page starts. let is = in_use_same p page (entry_at p.entries page) (entry_at entries page) (same page) (kept.in_use page starts) in record {
    listed = is.listed;
    some = is.some;
    in_space = is.in_space;
    table = is.table;
    inside = is.inside;
    before = is.before;
    count = is.count;
    used = is.used;
  };
  leads = λ page first leads.
      let is = kept.leads page first leads in
      let pages = same_pages (entry_at p.entries first) (entry_at entries first) (same first) in
      (is.0, is.1, omega (arith, is.2, pages));
  free = kept.free;
  taken = kept.taken;
  lists = record {
    count = kept.lists.count;
    nodes = kept.lists.nodes;
    each = λ i size page is. (
      λ held. let l = (kept.lists.each i size page is).0 held in record { starts = l.starts; outside = l.outside; sized = (same page).sized ∙ l.sized },
      λ listed. (kept.lists.each i size page is).1 (record { starts = listed.starts; outside = listed.outside; sized = sym (same page).sized ∙ listed.sized }),
    );
    order = λ i j k x y low before at-x at-y some.
        let first = kept.lists.order i j k x y low before at-x at-y (omega (arith, some, (same y).free)) in
        omega (arith, first, (same x).free);
    cached = kept.lists.cached;
  };
}
