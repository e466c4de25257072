use Rattle.std.proofs.Common.{◌≡◌, ◌∷◌, [], ℕ, List, Option, sym, subst, rules}
use Rattle.gt_io.specs.Held.{Held}
use Rattle.gt_words.specs.declared.call.Script.{Script}
use Rattle.gt_words.specs.Ranges.{HasHeaders}
use Rattle.gt_front.specs.Texts.{IsTextOf, Texts, headers_from, script_file}
use Rattle.gt_front.specs.Asks.{Calls}
use Rattle.gt_front.specs.Order.{AreRead, IsReadAs}
use Rattle.gt_front.specs.Reading.{IsStopAt, IsStopIn, AreHeadersRead, HasStopped}
use Rattle.gt_front.proofs.ReadingLemmas.{AreRead-push, HasStopped-append, HasStopped-script}
use Rattle.gt_front.proofs.StageLemmas.{HaltsAfter-at, IsStopOf-headers, IsStopOf-script, Reads-all, AreWithin-read, no_texts}
use Rattle.gt_front.proofs.stages.read_files.Goals as goal

pub returns-in-Err-clause-halted : goal.returns-in-Err-clause-halted
returns-in-Err-clause-halted g c =
    λ words called.
    let reads = g.F.Files.reads in
    let told = g.F.Files.told c.args.files.now in
    let same : c.as_slice.result.now ≡ c.args.call.now.headers = search rules in
    let S : List (List ℕ) → Type 0 = λ names. IsStopIn told names c.in-Err.stop in
    let calls : Calls words c.args.call.now c.args.name.now = record { called = called; script = c.requires.script } in
    let R : List (List ℕ) → Type 0 = λ names. HasStopped reads c.args.files.now (headers_from 1 names) c.in-Err.stop c.read_headers.new.files in
    HaltsAfter-at reads words told c.args.files.now c.read_headers.new.files no_texts c.args.call.now c.args.name.now calls c.in-Err.stop c.halt_reading.result
    (c.halt_reading.ensures.halted words told c.args.name.now no_texts calls
    (IsStopOf-headers told c.args.name.now c.args.call.now.headers c.in-Err.stop (subst S same c.in-Err.ensures.stopped)))
    (HasStopped-append reads c.args.files.now c.read_headers.new.files (headers_from 1 c.args.call.now.headers) (script_file c.args.name.now ∷ []) c.in-Err.stop
    (subst R same c.in-Err.ensures.stops))

pub returns-in-Ok-read_file-clause-read : goal.returns-in-Ok-read_file-clause-read
returns-in-Ok-read_file-clause-read g c =
    λ words called.
    let told = g.F.Files.told c.args.files.now in
    let same : c.as_slice.result.now ≡ c.args.call.now.headers = search rules in
    let H : List (List ℕ) → Type 0 = λ names. AreHeadersRead told names c.in-Ok.texts.items in
    let T : Option Held → Type 0 = λ t. IsTextOf t (script_file c.args.name.now) c.in-Ok-read_file.script in
    Reads-all words told c.args.call.now c.args.name.now c.in-Ok.texts.items c.in-Ok-read_file.script called c.requires.script
    (subst H same c.in-Ok.ensures.read) (subst T c.read_headers.ensures.told c.in-Ok-read_file.ensures.read)

pub returns-in-Ok-read_file-clause-within : goal.returns-in-Ok-read_file-clause-within
returns-in-Ok-read_file-clause-within g c =
    let told = g.F.Files.told c.args.files.now in
    let same : c.as_slice.result.now ≡ c.args.call.now.headers = search rules in
    let H : List (List ℕ) → Type 0 = λ names. AreHeadersRead told names c.in-Ok.texts.items in
    let R : Script → Type 0 = λ script. HasHeaders script c.args.call.now.headers in
    AreWithin-read told c.args.call.now c.args.name.now c.in-Ok.texts.items (subst R c.requires.script c.requires.ranges.headers) (subst H same c.in-Ok.ensures.read)

pub returns-in-Err-read_file-clause-halted : goal.returns-in-Err-read_file-clause-halted
returns-in-Err-read_file-clause-halted g c =
    λ words called.
    let reads = g.F.Files.reads in
    let told = g.F.Files.told c.args.files.now in
    let same : c.as_slice.result.now ≡ c.args.call.now.headers = search rules in
    let H : List (List ℕ) → Type 0 = λ names. AreHeadersRead told names c.in-Ok.texts.items in
    let T : Option Held → Type 0 = λ t. IsStopAt t (script_file c.args.name.now) c.in-Err-read_file.stop in
    let calls : Calls words c.args.call.now c.args.name.now = record { called = called; script = c.requires.script } in
    let R : List (List ℕ) → Type 0 = λ names. AreRead reads c.args.files.now (headers_from 1 names) c.in-Ok.texts.items c.read_headers.new.files in
    HaltsAfter-at reads words told c.args.files.now c.read_file.new.files no_texts c.args.call.now c.args.name.now calls c.in-Err-read_file.stop c.halt_reading-in-Err-read_file.result
    (c.halt_reading-in-Err-read_file.ensures.halted words told c.args.name.now no_texts calls
    (IsStopOf-script told c.args.name.now c.args.call.now.headers c.in-Ok.texts.items c.in-Err-read_file.stop (subst H same c.in-Ok.ensures.read)
    (subst T c.read_headers.ensures.told c.in-Err-read_file.ensures.stopped)))
    (HasStopped-script reads c.args.files.now c.read_headers.new.files c.read_file.new.files c.args.name.now c.args.call.now.headers c.in-Ok.texts.items c.in-Err-read_file.stop
    (subst R same c.in-Ok.ensures.all) c.in-Err-read_file.ensures.answered)

pub returns-in-Ok-read_file-clause-files : goal.returns-in-Ok-read_file-clause-files
returns-in-Ok-read_file-clause-files g c =
    let reads = g.F.Files.reads in
    let names = c.args.call.now.headers in
    let same : c.as_slice.result.now ≡ names = search rules in
    let texts : Texts = record { headers = c.in-Ok.texts.items; script = c.in-Ok-read_file.script } in
    let H : List (List ℕ) → Type 0 = λ names. AreRead reads c.args.files.now (headers_from 1 names) c.in-Ok.texts.items c.read_headers.new.files in
    let R : Script → Type 0 = λ script. IsReadAs reads script names texts c.args.files.now c.read_file.new.files in
    subst R (sym c.requires.script)
    (AreRead-push reads c.args.files.now c.read_headers.new.files c.read_file.new.files (headers_from 1 names) c.in-Ok.texts.items (script_file c.args.name.now) c.in-Ok-read_file.script
    (subst H same c.in-Ok.ensures.all) c.in-Ok-read_file.ensures.one)
