mod BeginLemmas
mod LawLemmas
mod LeavesLemmas
mod OwnLemmas
mod TakenLemmas
