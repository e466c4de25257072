use Rattle.std.proofs.Common.{◌≡◌, ◌≤◌, ◌+◌, take}
use Rattle.gt_front.specs.Order.{AreRead}
use Rattle.gt_front.specs.Reading.{AreHeadersRead}
use Rattle.gt_front.specs.Texts.{headers_from}
use Rattle.gt_front.proofs.reading.read_headers.Given as goal

abbrev pub invariant-loop-name : goal.invariant-loop-name
invariant-loop-name g l =
    record {
      told : g.F.Files.told l.files ≡ g.F.Files.told l.fn.files;
      later : g.F.Files.faults l.fn.files ≤ g.F.Files.faults l.files;
      place : l.word ≡ l.name-index + 1;
      order : AreRead g.F.Files.reads l.fn.files (headers_from 1 (take l.name-index l.names)) l.texts.items l.files;
      so_far : AreHeadersRead (g.F.Files.told l.fn.files) (take l.name-index l.names) l.texts.items;
    }
