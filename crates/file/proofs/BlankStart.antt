-- An accepted start has the sum of n fill bytes, and its count is the formula's.
-- It rests on what start answers (`Calls`), on the invariant that it sets up (`Invariant`) and on field's law of a blank file's sum.
use mathlib.Core.Path.{◌≡◌, refl, ap, ◌∙◌}
use mathlib.Core.Logic.{◌⊎◌}
use Rattle.field.specs.Field.{zero_block}
use Rattle.field.proofs.Blank.{blank-sum}
use Rattle.gcm.specs.Gcm.{hash_key}
use Rattle.file.specs.declared.states.State.{State}
use Rattle.file.specs.States.{state_of, Start, started}
use Rattle.file.specs.Machine.{blank}
use Rattle.file.specs.Runs.{begun, run, begun_from}
use Rattle.file.specs.Demands.{BlankStart}
use Rattle.file.proofs.Calls.{begun_start}
use Rattle.file.proofs.Invariant.{summed_start}

nothing : (s : Start) → (started s).refusal ≡ 0 → (s.n ≡ 0) ⊎ (s.fill ≡ 0) → ((started s).state.s ≡ zero_block) × ((started s).count ≡ 0)
unfolding state_of
nothing s a e =
    let b = begun_start s a in
    let none = blank-sum.nothing (hash_key s.key) s.fill s.n e in
    (ap (λ (st : State). st.s) b.state ∙ none.0, b.counts ∙ none.1)

pub blank_start : BlankStart
unfolding blank begun_from run begun
blank_start = record { sums = summed_start; counts = λ s a. (begun_start s a).counts; nothing = nothing; apart = λ s. refl }
