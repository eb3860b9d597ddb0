use Rattle.dap_moves.proofs.public.Leading.{led_nowhere, led_on, led_by_one, keeps-headline, loses-nothing-else}
use Rattle.dap_moves.proofs.laws.led_laws.Goals as goal

pub returns-clause-nowhere : goal.returns-clause-nowhere
returns-clause-nowhere c = led_nowhere

pub returns-clause-on : goal.returns-clause-on
returns-clause-on c = led_on

pub returns-clause-one : goal.returns-clause-one
returns-clause-one c = led_by_one

pub returns-clause-headline : goal.returns-clause-headline
returns-clause-headline c = keeps-headline

pub returns-clause-least : goal.returns-clause-least
returns-clause-least c = loses-nothing-else
