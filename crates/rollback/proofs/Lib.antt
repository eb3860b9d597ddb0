mod RollbackLemmas
mod Rolling
