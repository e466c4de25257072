use Rattle.gt_imgfmt.proofs.EntryLemmas.{headers_fixed, objects_fixed, caches_fixed, headers_read_back, objects_read_back, caches_read_back, entries_fill}
use Rattle.gt_imgfmt.proofs.ReadLemmas.{headers_read, objects_read, caches_read}
use Rattle.gt_imgfmt.proofs.laws.entries_read_back.Goals as goal

pub returns-clause-headers_fixed : goal.returns-clause-headers_fixed
returns-clause-headers_fixed c = headers_fixed

pub returns-clause-objects_fixed : goal.returns-clause-objects_fixed
returns-clause-objects_fixed c = objects_fixed

pub returns-clause-caches_fixed : goal.returns-clause-caches_fixed
returns-clause-caches_fixed c = caches_fixed

pub returns-clause-headers_read : goal.returns-clause-headers_read
returns-clause-headers_read c = headers_read

pub returns-clause-objects_read : goal.returns-clause-objects_read
returns-clause-objects_read c = objects_read

pub returns-clause-caches_read : goal.returns-clause-caches_read
returns-clause-caches_read c = caches_read

pub returns-clause-headers : goal.returns-clause-headers
returns-clause-headers c = headers_read_back

pub returns-clause-objects : goal.returns-clause-objects
returns-clause-objects c = objects_read_back

pub returns-clause-caches : goal.returns-clause-caches
returns-clause-caches c = caches_read_back

pub returns-clause-lengths : goal.returns-clause-lengths
returns-clause-lengths c = entries_fill
