-- What is written of a picture.
use Rattle.std.proofs.Common.{◌≡◌, ◌∙◌, inl, inr, ℕ, List, [], ◌++◌, Option, None, Some, Result, Ok, Err, Vec, Global, refl, subst, sym}
use Rattle.std.proofs.lemmas.List.{append-nil}
use Rattle.std.specs.Io.KnownBytes.{Appends}
use Rattle.system.specs.declared.system.System.{System}
use Rattle.trace_file.specs.Loading.{IsRefused, fault_writes}
use Rattle.trace_file.specs.declared.fault.Fault.{Fault}
use Rattle.picture.specs.Pictures.{Files, IsPictureBehind, IsPictureText, WritesPicture}
use Rattle.picture.specs.internal.Writing.{WritesPictured, WritesText}
use Rattle.picture.specs.declared.Drawing.{Drawing}
use Rattle.picture.specs.declared.Pictured.{Pictured}

-- what a trace is refused for is no failure of a writer
pub refused-writes : (system : System) (text : List ℕ) (fault : Fault) (n : ℕ) → IsRefused system text fault → fault_writes fault n ≡ n
refused-writes system text Fault.Memory n h = refl
refused-writes system text Fault.BadHeader n h = refl
refused-writes system text (Fault.BadLine k) n h = refl
refused-writes system text (Fault.NotAStep k) n h = refl
refused-writes system text (Fault.NotCanonical k) n h = refl
refused-writes system text Fault.ReadFailed n h = refl
refused-writes system text Fault.WriteFailed n h = absurd h

-- a writer that was not asked
nothing : (known : Option (List ℕ)) → Appends known known []
nothing None = tt
nothing (Some bytes) = sym (append-nil bytes)

untouched : (wrote held : Option (List ℕ)) → held ≡ wrote → Appends wrote held []
untouched wrote held same = subst (λ (known : Option (List ℕ)). Appends wrote known []) (sym same) (nothing wrote)

-- the text of a picture, or the lines where there is no such step
text-written : (system : System) (trace : List ℕ) (f : Files) (drawing : Drawing) (text : Vec ℕ Global) (wrote held : Option (List ℕ))
    (result : Result (Option (Vec ℕ Global)) Fault) → IsPictureBehind system trace f drawing (Pictured.Text text) →
    WritesText text.items wrote held result → WritesPicture system trace f drawing wrote held result
text-written system trace f drawing text wrote held (Ok None) h w =
    (w.0, w.1, inl (h.0, h.1, subst (λ (t : List ℕ). IsPictureText h.0 f drawing t) (sym w.2) h.2))
text-written system trace f drawing text wrote held (Ok (Some words)) h w = absurd w.2
text-written system trace f drawing text wrote held (Err fault) h w = (w.0, w.1, inl (h.0, h.1, (w.2.0, (text.items, h.2, w.2.1))))

pub picture-written : (system : System) (trace : List ℕ) (f : Files) (drawing : Drawing) (pictured : Pictured) (wrote held : Option (List ℕ))
    (result : Result (Option (Vec ℕ Global)) Fault) → IsPictureBehind system trace f drawing pictured → WritesPictured pictured wrote held result →
    WritesPicture system trace f drawing wrote held result
picture-written system trace f drawing (Pictured.Text text) wrote held result h w = text-written system trace f drawing text wrote held result h w
picture-written system trace f drawing (Pictured.NoSuchStep words) wrote held result h w =
    subst (λ (r : Result (Option (Vec ℕ Global)) Fault). WritesPicture system trace f drawing wrote held r) (sym w.0)
    ([], untouched wrote held w.1, inl (h.0, h.1, (h.2, refl)))

-- a trace that is refused
pub refusal-written : (system : System) (trace : List ℕ) (f : Files) (drawing : Drawing) (fault : Fault) (wrote held : Option (List ℕ)) →
    IsRefused system trace fault → held ≡ wrote → WritesPicture system trace f drawing wrote held (Err fault)
refusal-written system trace f drawing fault wrote held h same = ([], untouched wrote held same, inr (fault, refl, h, refl))
