-- What serves contracts and laws alone: what a call leaves as one record, so that a contract is one equation.
use Rattle.std.specs.Prelude.{List, ℕ}
use Rattle.capi.specs.Calls.{EditCall, ReadCall, SealCall, CheckCall, ReplayCall, JoinCall}

-- of an edit and of start
abbrev pub edit_result : (refusal : ℕ) (state : List ℕ) (count : ℕ) → EditCall
edit_result refusal state count = record { refusal = refusal; state = state; count = count }

-- of read
abbrev pub read_result : (refusal : ℕ) (state : List ℕ) → ReadCall
read_result refusal state = record { refusal = refusal; state = state }

-- of seal
abbrev pub seal_result : (refusal : ℕ) (state slip : List ℕ) → SealCall
seal_result refusal state slip = record { refusal = refusal; state = state; slip = slip }

-- of check
abbrev pub check_result : (refusal verdict : ℕ) → CheckCall
check_result refusal verdict = record { refusal = refusal; verdict = verdict }

-- of replay
abbrev pub replay_result : (refusal : ℕ) (state : List ℕ) (count offset : ℕ) → ReplayCall
replay_result refusal state count offset = record { refusal = refusal; state = state; count = count; offset = offset }

-- of join
abbrev pub join_result : (refusal : ℕ) (sum : List ℕ) (n : ℕ) → JoinCall
join_result refusal sum n = record { refusal = refusal; sum = sum; n = n }
