pub mod JudgedLemmas
