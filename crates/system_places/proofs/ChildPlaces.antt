-- What is found in a child, where there is one of its number.
use Rattle.std.proofs.Common.{ℕ, ◌≡◌, ◌∙◌, sym, ap, List, map}
use Rattle.std.proofs.lemmas.Option.{slice_get-map}
use Rattle.std.specs.Prelude.{Option, Some, None, slice_get}
use Rattle.std.specs.Option.{option_map}
use Rattle.address.specs.declared.Entry.{Entry}
use Rattle.system.specs.declared.command.Command.{Command}
use Rattle.system_places.specs.CommandPlaces.{Found, found_in_last, found_in_child}

-- the child is there
pub child_found : (f : Command → Found) (cs : List Command) (n : ℕ) (way : List Entry) (x : Command) → slice_get cs n ≡ Some x → f x way ≡ found_in_child (map f cs) n way
child_found f cs n way x e = sym (ap (λ (o : Option Found). found_in_last o way) (slice_get-map f cs n ∙ ap (option_map f) e))

-- there is no such child
pub child_missing : (f : Command → Found) (cs : List Command) (n : ℕ) (way : List Entry) → slice_get cs n ≡ None → None ≡ found_in_child (map f cs) n way
child_missing f cs n way e = sym (ap (λ (o : Option Found). found_in_last o way) (slice_get-map f cs n ∙ ap (option_map f) e))
