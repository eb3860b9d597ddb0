mod Rowed
