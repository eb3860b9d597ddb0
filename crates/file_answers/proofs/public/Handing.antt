-- What a `?` hands on.
use Rattle.std.proofs.Common.{◌≡◌, Result, Ok, Err, ap, subst, sym}
use Rattle.std.specs.Prelude.{MatchResult}
use Rattle.std.specs.Result.{IsErrAnd}

-- a `?` hands the error on
pub handed-on : {A E : Type 0} (r : Result A E) (error : E) → IsErrAnd r (λ given. given ≡ error) → r ≡ Err error
handed-on (Ok x) error e = absurd e
handed-on (Err given) error e = ap Err e

-- and with it why there is no answer
pub refused : {A E : Type 0} (r : Result A E) (error : E) (gives : A → Type 0) (refuses : E → Type 0)
    → refuses error → IsErrAnd r (λ given. given ≡ error) → MatchResult r gives refuses
refused (Ok x) error gives refuses h e = absurd e
refused (Err given) error gives refuses h e = subst refuses (sym e) h
