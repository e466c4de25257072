-- The laws, for proofs to cite.
use Rattle.std.specs.Prelude.{◌≡◌, ℕ, List}
use Rattle.gt_types.specs.declared.faults.Fault.{Fault}
use Rattle.gt_types.specs.declared.program.Program.{Program}
use Rattle.gt_types.specs.Settled.{Settled}
use Rattle.gt_headers.specs.Headers.{Declares, IsFirstFault}
use Rattle.gt_lex.proofs.Outcomes as lexed
use Rattle.gt_search.proofs.Searched.{one_search}
use Rattle.gt_resolve.proofs.Outcomes as resolved
use Rattle.gt_options.proofs.Settled as options
use Rattle.gt_sound.proofs.LawLemmas as made
use Rattle.gt_settled.proofs.Whole as whole
use Rattle.gt_layout.proofs.Ideal as ideal
use Rattle.gt_headers.proofs.ReadOutcomes as reading
use Rattle.gt_headers.proofs.SoundLemmas.{sound_by}
use Rattle.gt_headers.proofs.Outcomes as outcomes

-- the program that headers declare is settled
pub declared_is_settled : (texts : List (List ℕ)) (program : Program) → Declares texts program → Settled program
declared_is_settled texts program d =
    whole.settled d.0 program (sound_by made.read_is_well_made made.resolved_is_sound texts d.0 d.1.resolved) d.1.declares

pub one_fault : (texts : List (List ℕ)) (fault other : Fault) → IsFirstFault texts fault → IsFirstFault texts other → fault ≡ other
one_fault =
    let one = reading.one_reading one_search lexed.one_lexed lexed.lexed_no_fault lexed.one_first_fault in
    let none = reading.read_no_reading_fault one_search lexed.one_lexed lexed.lexed_no_fault lexed.one_first_fault in
    let same = reading.one_reading_fault one_search lexed.one_lexed lexed.lexed_no_fault lexed.one_first_fault in
    outcomes.one_first_fault one none same resolved.not_both resolved.one_draft resolved.one_fault (sound_by made.read_is_well_made made.resolved_is_sound) options.not_two (λ draft program sound is. whole.settled draft program sound is)
    ideal.one_layout

pub no_fault : (texts : List (List ℕ)) (program : Program) (fault : Fault) → Declares texts program → IsFirstFault texts fault → ⊥
no_fault =
    let one = reading.one_reading one_search lexed.one_lexed lexed.lexed_no_fault lexed.one_first_fault in
    let none = reading.read_no_reading_fault one_search lexed.one_lexed lexed.lexed_no_fault lexed.one_first_fault in
    let same = reading.one_reading_fault one_search lexed.one_lexed lexed.lexed_no_fault lexed.one_first_fault in
    outcomes.declared_no_fault one none same resolved.not_both resolved.one_draft resolved.one_fault (sound_by made.read_is_well_made made.resolved_is_sound) options.not_two (λ draft program sound is. whole.settled draft program sound is)
    ideal.one_layout
