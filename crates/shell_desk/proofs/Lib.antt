mod AgainLemmas
mod AwakeLemmas
mod DeedLemmas
mod NumberLemmas
mod RestLemmas
mod SleepLemmas
mod TidyLemmas
mod WordLemmas
