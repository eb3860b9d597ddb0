use Rattle.dap_requests.proofs.backward.tell_kept.Goals as goal

pub returns-clause-stops : goal.returns-clause-stops
returns-clause-stops c = (c.kept_words-words.result.1, c.tell_refused.ensures.stops, c.kept_words-words.ensures)
