-- The bytes that a read of standard input gave.
--   BytesIn xs r   where r counts bytes, they stand at the beginning of the list xs
use Rattle.std.specs.Prelude.{◌≡◌, ℕ, ◌≤◌, List, length, take, Result, IfOk}

abbrev pub BytesIn : {E : Type 0} → List ℕ → Result ℕ E → Type 0
BytesIn xs r = IfOk r (λ n. (n ≤ length xs) × (n ≡ length (take n xs)))
