use Rattle.std.proofs.Common.{◌≡◌, true, rules}
use Rattle.sample_heap.specs.Named.{walks_of}
use Rattle.sample_heap.proofs.Ready.{can_roots, roots_name}
use Rattle.sample_heap.proofs.heap.SampleHeap.mark_roots.Goals as goal

pub mark_roots-requires : goal.mark_roots-requires
mark_roots-requires c =
    let s = c.args.self.now in
    let named : c.roots_named.result ≡ true = search rules in
    let ready : c.is_ready.result ≡ true = search rules in
    record {
      ready = (
        walks_of s.known.slots,
        roots_name s.tables s.space s.known.slots s.pages.slots c.sound.ensures.laid.rising (c.is_ready.ensures ready) (c.roots_named.ensures named),
        can_roots s.tables s.space s.known.slots s.pages.slots c.sound.ensures.laid.rising (c.is_ready.ensures ready) (c.roots_named.ensures named),
      );
    }
