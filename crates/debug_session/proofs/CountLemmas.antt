-- What a fault says of the failures of reader and writer.
use Rattle.std.proofs.Common.{◌≡◌, ◌⊎◌, inl, inr, ℕ, List, Result, Err, refl, sym, ap, ◌∙◌}
use Rattle.system.specs.declared.system.System.{System}
use Rattle.debug_session.specs.Accepting.{IsRefused}
use Rattle.debug_session.specs.Counting.{fault_reads, fault_writes, after_reading, after_writing}
use Rattle.debug_session.specs.internal.OneLine.{LineStops}
use Rattle.debug_session.specs.declared.fault.Fault.{Fault}

-- a fault of reading is none of writing
pub unread-writes : (fault : Fault) (n : ℕ) → (fault ≡ Fault.Memory) ⊎ (fault ≡ Fault.ReadFailed) → fault_writes fault n ≡ n
unread-writes fault n h =
    elim h [ inl e ↦ ap (λ (f : Fault). fault_writes f n) e | inr e ↦ ap (λ (f : Fault). fault_writes f n) e ]

-- a line that is not answered is no fault of reading
pub stops-reads : (s : System) (line : List ℕ) (number : ℕ) (fault : Fault) (n : ℕ) → LineStops s line number fault → fault_reads fault n ≡ n
stops-reads s line number Fault.Memory n h = refl
stops-reads s line number (Fault.NoSystem f) n h = absurd h
stops-reads s line number (Fault.Trace f) n h = absurd h
stops-reads s line number (Fault.Refused why) n h = absurd h
stops-reads s line number Fault.ReadFailed n h = absurd h
stops-reads s line number Fault.WriteFailed n h = absurd h
stops-reads s line number (Fault.BadCommand k) n h = refl

-- nor of writing
pub stops-writes : (s : System) (line : List ℕ) (number : ℕ) (fault : Fault) (n : ℕ) → LineStops s line number fault → fault_writes fault n ≡ n
stops-writes s line number Fault.Memory n h = refl
stops-writes s line number (Fault.NoSystem f) n h = absurd h
stops-writes s line number (Fault.Trace f) n h = absurd h
stops-writes s line number (Fault.Refused why) n h = absurd h
stops-writes s line number Fault.ReadFailed n h = absurd h
stops-writes s line number Fault.WriteFailed n h = absurd h
stops-writes s line number (Fault.BadCommand k) n h = refl

-- a refusal of source and stimulus is no fault of reading
pub refused-reads : (source stimulus : List ℕ) (fault : Fault) (n : ℕ) → IsRefused source stimulus fault → fault_reads fault n ≡ n
refused-reads source stimulus Fault.Memory n h = refl
refused-reads source stimulus (Fault.NoSystem f) n h = refl
refused-reads source stimulus (Fault.Trace f) n h = refl
refused-reads source stimulus (Fault.Refused why) n h = refl
refused-reads source stimulus Fault.ReadFailed n h = absurd h
refused-reads source stimulus Fault.WriteFailed n h = refl
refused-reads source stimulus (Fault.BadCommand k) n h = refl

-- nor one of writing
pub refused-writes : (source stimulus : List ℕ) (fault : Fault) (n : ℕ) → IsRefused source stimulus fault → fault_writes fault n ≡ n
refused-writes source stimulus Fault.Memory n h = refl
refused-writes source stimulus (Fault.NoSystem f) n h = refl
refused-writes source stimulus (Fault.Trace f) n h = refl
refused-writes source stimulus (Fault.Refused why) n h = refl
refused-writes source stimulus Fault.ReadFailed n h = refl
refused-writes source stimulus Fault.WriteFailed n h = absurd h
refused-writes source stimulus (Fault.BadCommand k) n h = refl

-- what a fault says of the reader, told by a result that is this fault
pub reads-on : (m n k : ℕ) (fault : Fault) (r : Result (Unit {0}) Fault) → m ≡ fault_reads fault n → n ≡ k → r ≡ Err fault
    → m ≡ after_reading r k
reads-on m n k fault r a b e =
    a ∙ (ap (λ (x : ℕ). fault_reads fault x) b ∙ ap (λ (x : Result (Unit {0}) Fault). after_reading x k) (sym e))

-- what it says of the writer
pub writes-on : (m n k : ℕ) (fault : Fault) (r : Result (Unit {0}) Fault) → m ≡ fault_writes fault n → n ≡ k → r ≡ Err fault
    → m ≡ after_writing r k
writes-on m n k fault r a b e =
    a ∙ (ap (λ (x : ℕ). fault_writes fault x) b ∙ ap (λ (x : Result (Unit {0}) Fault). after_writing x k) (sym e))
