-- Records as bytes, computed by the definitions, with nothing of the code between.
use Rattle.std.specs.Prelude.{◌≡◌, [], ◌∷◌, refl}
use Rattle.rd_state.specs.Change.{Task}
use Rattle.rd_state.specs.TaskChanges.{SetReg, SetData}
use Rattle.rd_packed.specs.Records.{record_packed}

-- What undoes 9 in r3 of the first task, which had 0 there.
register_record : record_packed (Task 0 (SetReg 3 0) ∷ []) ≡ 0 ∷ 3 ∷ 0 ∷ 0 ∷ 0 ∷ 0 ∷ 5 ∷ 7 ∷ 0 ∷ 0 ∷ 0 ∷ 1 ∷ 0 ∷ 0 ∷ 0 ∷ []
register_record = refl

-- What undoes no data of the first task, which had the byte 41.
data_record : record_packed (Task 0 (SetData (65 ∷ [])) ∷ []) ≡ 65 ∷ 0 ∷ 1 ∷ 0 ∷ 8 ∷ 5 ∷ 0 ∷ 0 ∷ 0 ∷ 1 ∷ 0 ∷ 0 ∷ 0 ∷ []
data_record = refl
