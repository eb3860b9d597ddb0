use Rattle.std.proofs.Common.{inl, refl}
use Rattle.dependence.proofs.Candidacy.{places-one, places-two}
use Rattle.dependence.proofs.public.Tabling.{first-put, second-more, second-all, orderly-put, ok-weaker}
use Rattle.dependence.proofs.puts.put_places.Goals as goal

pub returns-in-Some-clause-more : goal.returns-in-Some-clause-more
returns-in-Some-clause-more c =
    second-more c.put-in-Some.result c.args.table.now c.put.new.self c.put-in-Some.new.self c.args.ticket c.args.event.now c.in-Some.second c.requires.free c.requires.own
    c.in_ok-put.ensures.put c.in-Some.is c.put-in-Some.ensures.put c.put-in-Some.ensures.refused

pub returns-in-Some-clause-all : goal.returns-in-Some-clause-all
returns-in-Some-clause-all c =
    second-all c.put-in-Some.result c.args.table.now c.put.new.self c.put-in-Some.new.self c.args.ticket c.args.event.now c.in-Some.second c.requires.free c.requires.own
    c.in_ok-put.ensures.put c.in-Some.is c.put-in-Some.ensures.put

pub returns-in-None-clause-more : goal.returns-in-None-clause-more
returns-in-None-clause-more c = first-put c.args.table.now c.put.new.self c.args.ticket c.args.event.now c.requires.free c.in_ok-put.ensures.put

pub put-requires : goal.put-requires
put-requires c = c.requires.orderly c.args.event.now.first (inl refl)

pub put-requires-in-Some : goal.put-requires-in-Some
put-requires-in-Some c =
    orderly-put c.args.table.now c.put.new.self c.args.ticket c.args.event.now c.in-Some.second c.requires.orderly c.requires.own c.in_ok-put.ensures.put c.in-Some.is

pub returns-in-Some-clause-found : goal.returns-in-Some-clause-found
returns-in-Some-clause-found c =
    ok-weaker c.put-in-Some.result
    (places-two c.args.table.now c.put.new.self c.args.ticket c.args.event.now c.in-Some.second c.args.found.now.items c.put.new.found.items c.put-in-Some.new.found.items
    c.requires.free c.requires.own c.in_ok-put.ensures.put c.in-Some.is c.in_ok-put.ensures.found) c.put-in-Some.ensures.found

pub returns-in-None-clause-found : goal.returns-in-None-clause-found
returns-in-None-clause-found c =
    places-one c.args.table.now c.args.event.now c.args.found.now.items c.put.new.found.items c.in-None.is c.in_ok-put.ensures.found
