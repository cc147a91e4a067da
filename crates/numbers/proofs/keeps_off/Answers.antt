-- The supervisor's reads and writes go by SMAP and AC, its fetches by SMEP.
use Rattle.numbers.proofs.Laws.{keeps_data, keeps_none, keeps_fetch}
use Rattle.numbers.proofs.keeps_off.Goals as goal

pub returns-then-ac-eq0 : goal.returns-then-ac-eq0
returns-then-ac-eq0 c = search keeps_data

pub returns-then-kind-lt2 : goal.returns-then-kind-lt2
returns-then-kind-lt2 c = search keeps_none

pub returns : goal.returns
returns c = search keeps_fetch
