mod Beginning
mod FewBranches
mod Knowing
mod Lined
mod Lying
mod Placed
mod Shapes
